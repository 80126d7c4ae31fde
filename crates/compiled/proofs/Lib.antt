-- Laws of the lists that compiling gives.
pub mod Rendered
pub mod Compiled
