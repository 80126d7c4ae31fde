-- Laws of value tables, for the proofs of the crates above.
pub mod Reading
pub mod Keeping
pub mod Placed
pub mod Finding
pub mod Copying
