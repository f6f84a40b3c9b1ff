pub mod Crc
pub mod Division
pub mod Inner
