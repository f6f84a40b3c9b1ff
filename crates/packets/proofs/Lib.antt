pub mod PacketLaws
pub mod RuleLaws
pub mod Following
pub mod Calls
