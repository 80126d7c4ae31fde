-- Laws of the trace, for the proofs of the crates above.
pub mod Order
pub mod Passed
pub mod EntryTests
pub mod Passes
pub mod Decoded
