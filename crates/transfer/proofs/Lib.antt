pub mod Laws
pub mod SendLaws
