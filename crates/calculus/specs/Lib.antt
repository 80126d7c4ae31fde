-- The definitions and statements of `calculus`, in the order to read them.
pub mod Signature
pub mod Terms
pub mod Tables
pub mod Repeats
pub mod Scope
pub mod Figure2
pub mod Typing
pub mod Inference
pub mod Version1
pub mod ExampleTables
