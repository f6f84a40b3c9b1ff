-- Laws that the proofs of this program cite.
pub mod Fits
