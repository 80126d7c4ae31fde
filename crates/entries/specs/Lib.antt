-- What the promises of `entries` speak of.
pub mod Fields
pub mod Faults
pub mod Words
pub mod Tiling
