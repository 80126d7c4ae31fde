-- What the promises of `run_parts` speak of.
pub mod Registers
pub mod Messages
pub mod Supply
pub mod Types
