pub mod Numbers
pub mod Configuring
pub mod Keys
pub mod Streams
pub mod Admitting
pub mod Inner
