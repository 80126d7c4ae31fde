-- What the promises of `answers` speak of.
pub mod Files
pub mod Ladder
pub mod Least
