-- Laws of the registers that the arrays hold.
pub mod HeldLaws
pub mod RegisterLaws
pub mod Marking
