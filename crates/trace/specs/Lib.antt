-- What the promises of `trace` speak of.
pub mod Layout
pub mod Faults
pub mod Right
pub mod Decoded
