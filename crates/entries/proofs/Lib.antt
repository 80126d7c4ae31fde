-- Laws of entries, for the proofs of the readers.
pub mod Places
pub mod InOrder
pub mod Unlike
pub mod Words
pub mod Tiling
