-- Laws of `running`, for the proofs of the crates above.
pub mod Registers
pub mod Binding
pub mod Places
pub mod Simulation
pub mod Occurrence
pub mod Rules
pub mod Types
pub mod Opening
pub mod Seen
pub mod Made
pub mod Under
pub mod Mirror
pub mod Demand3Laws
pub mod Version1Laws
pub mod ExampleProofs
pub mod Example1
