-- Laws of `slots`, for the proofs of the crates above.
pub mod TermLaws
pub mod SlotLaws
pub mod PushLaws
