-- Laws of the bytes of lists.
pub mod FileLayout
pub mod Codes
pub mod Reading
pub mod Passing
pub mod FileBytes
pub mod Once
pub mod Formed
pub mod Examples
