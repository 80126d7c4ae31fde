-- What the promises of `machine` speak of.
pub mod Statements
pub mod Running
