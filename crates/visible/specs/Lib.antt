-- What the promises of `visible` speak of.
pub mod Seen
