-- What the promises of `lines` speak of.
pub mod Lines
