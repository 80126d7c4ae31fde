-- What the promises of `statement_counts` speak of.
pub mod Counts
