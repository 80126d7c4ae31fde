-- Laws of the shelf: what its verdicts say, and that it has no second answer.
pub mod Totals
pub mod Writing
pub mod Stages
pub mod Once
pub mod ReadBack
