-- Laws of `types`, for the proofs of the crates above.
pub mod ForestLaws
pub mod TypeLaws
pub mod PrefixLaws
pub mod Version1Laws
