-- The definitions and statements of `running`, in the order to read them.
pub mod Values
pub mod Acts
pub mod Lists
pub mod Processes
pub mod Demand3
pub mod Examples
