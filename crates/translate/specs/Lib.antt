-- What the promises of `translate` speak of.
pub mod Stepwise
pub mod Making
