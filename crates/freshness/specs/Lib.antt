-- What the promises of `freshness` speak of.
pub mod Marks
pub mod Fresh
