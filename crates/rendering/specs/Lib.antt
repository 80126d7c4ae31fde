-- The definitions and statements of `rendering`, in the order to read them.
pub mod Rendering
pub mod Judge
pub mod Translation
pub mod Lists
pub mod Examples
