-- Laws of marks of values, for the proofs of this crate.
pub mod MarkLaws
pub mod HeldLaws
