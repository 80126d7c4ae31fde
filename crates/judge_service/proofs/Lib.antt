-- Laws of the judge.
pub mod Stages
pub mod Exact
pub mod Places
