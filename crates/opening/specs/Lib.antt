-- What the promises of `opening` speak of.
pub mod Opening
