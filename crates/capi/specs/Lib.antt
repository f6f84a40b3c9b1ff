pub mod Calls
pub mod ThreeCases
