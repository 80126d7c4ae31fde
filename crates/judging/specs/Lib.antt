-- What the promises of `judging` speak of.
pub mod Meanings
pub mod Due
pub mod Turns
pub mod Verdicts
