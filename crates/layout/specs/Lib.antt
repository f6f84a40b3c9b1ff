pub mod Pieces
pub mod Moves
pub mod Answers
pub mod Inner
