-- Laws of execution, for the proofs of the crates above.
pub mod StatementLaws
