-- The definitions and statements of `text`, in the order to read them.
pub mod Ascii
pub mod Source
pub mod Grammar
pub mod Places
pub mod Numbering
pub mod Meaning
pub mod Right
pub mod Writing
pub mod Renaming
pub mod Reader
pub mod Statements
