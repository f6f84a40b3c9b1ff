pub mod Streams
pub mod Transfers
pub mod Feeding
pub mod Positions
pub mod Inner
