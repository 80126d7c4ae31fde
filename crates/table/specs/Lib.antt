-- What the promises of `table` speak of.
pub mod Faults
pub mod Read
