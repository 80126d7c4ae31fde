-- What the promises of `filing` speak of.
pub mod Filing
