-- What the promises of `type_match` speak of.
pub mod Alike
