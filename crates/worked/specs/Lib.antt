-- What the promises of `worked` speak of.
pub mod Examples
pub mod Marked
