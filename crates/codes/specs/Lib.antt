-- What the promises of `codes` speak of.
pub mod Kinds
pub mod Marks
pub mod Rows
pub mod Types
