-- What the promises of `effects` speak of.
pub mod Effects
