pub mod Checksum
pub mod Guards
pub mod Inner
