-- Laws of runs.
pub mod Growth
pub mod Progress
pub mod Starting
pub mod OneAnswer
