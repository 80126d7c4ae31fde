-- What the promises of `compiled` speak of.
pub mod Compiled
