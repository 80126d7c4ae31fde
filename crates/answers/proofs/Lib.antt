-- Laws of the ladder, for the proofs of the readers.
pub mod Ladder
pub mod Finds
pub mod Layers
pub mod Passes
pub mod Refused
pub mod Leads
pub mod Least
