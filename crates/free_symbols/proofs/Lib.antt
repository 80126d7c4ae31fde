-- Laws of the free symbols of a table, for the proofs of the crates above.
pub mod BoundLaws
pub mod FreeLaws
