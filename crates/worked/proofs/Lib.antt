-- Document 01's marked examples: one computation, and a law.
pub mod Computed
pub mod Computation
pub mod TableLaws
pub mod RunLaws
pub mod Law
