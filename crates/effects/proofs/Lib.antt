-- Laws of what statements do, for the proofs of the crates above.
pub mod EndingLaws
pub mod ActLaws
pub mod OpeningLaws
