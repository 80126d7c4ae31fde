-- What the promises of `type_bytes` speak of.
pub mod Lower
pub mod Ends
pub mod Meets
