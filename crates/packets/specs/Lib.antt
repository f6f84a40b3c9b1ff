pub mod Sessions
pub mod PacketRule
pub mod Lists
pub mod Demand3
