-- What the promises of `value_table` speak of.
pub mod Values
pub mod Kept
