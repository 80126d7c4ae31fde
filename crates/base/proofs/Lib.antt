-- Laws of the definitions in specs/, for the proofs of the crates above.
pub mod Searched
pub mod Bounds
pub mod SomeLaws
pub mod BothLaws
pub mod Ranges
