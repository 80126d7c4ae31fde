-- What the promises of `execution` speak of.
pub mod Execution
