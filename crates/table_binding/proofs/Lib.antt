-- Laws of binding, for the proofs of this crate and of those above.
pub mod PassLaws
