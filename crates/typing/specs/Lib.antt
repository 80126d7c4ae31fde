-- What the promises of `typing` speak of.
pub mod Typing
pub mod Marking
pub mod Stages
pub mod Answers
