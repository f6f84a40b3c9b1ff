-- The proofs of this crate and of the crates that depend on it cite these laws.
pub mod PieceLaws
pub mod MoveLaws
pub mod AnswerLaws
pub mod CountLaws
pub mod CursorLaws
