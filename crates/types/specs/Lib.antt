-- The definitions and statements of `types`, in the order to read them.
pub mod Order
pub mod Forest
pub mod Types
pub mod Prefix
pub mod Version1
