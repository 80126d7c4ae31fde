-- Laws of the run service.
pub mod Stages
pub mod Once
pub mod ReadBack
pub mod Demand3
