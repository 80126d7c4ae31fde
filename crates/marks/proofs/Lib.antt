-- Laws of marks, for the proofs of the crates above.
pub mod PutLaws
