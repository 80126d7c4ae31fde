-- What the promises of `registers` speak of.
pub mod Held
