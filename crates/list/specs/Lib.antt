-- What the promises of `list` speak of.
pub mod Layout
pub mod Statements
pub mod Right
pub mod Faults
pub mod TypeOf
pub mod Tiles
