pub mod Rules
pub mod Transferring
pub mod Inner
