-- Laws of lent buffers, for the proofs of the crates above.
pub mod Parts
pub mod OverLaws
