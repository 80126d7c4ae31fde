-- What the promises of `table_layout` speak of.
pub mod Layout
pub mod Faults
