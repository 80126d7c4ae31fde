-- Demand 3 of the runs of accepted lists.
pub mod Agreeing
pub mod Occurring
pub mod Runs
