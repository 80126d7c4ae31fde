-- Laws of what a run keeps, for the proofs of the crates above.
pub mod RegisterLaws
pub mod KeptLaws
