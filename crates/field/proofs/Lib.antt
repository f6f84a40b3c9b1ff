pub mod Laws
pub mod TagLaws
