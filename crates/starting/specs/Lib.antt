-- What the promises of `starting` speak of.
pub mod Fourteen
