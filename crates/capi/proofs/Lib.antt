pub mod ThreeCases
pub mod Calls
