-- The proofs of this crate and of the crates that depend on it cite these laws.
pub mod Laws
