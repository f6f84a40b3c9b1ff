pub mod Tests
pub mod Domains
pub mod Fields
pub mod Judging
pub mod Output
