-- What the promises of `base` speak of.
pub mod Pick
pub mod Bytes
pub mod Search
