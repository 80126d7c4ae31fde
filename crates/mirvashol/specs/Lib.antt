-- What the promises of `mirvashol` speak of.
pub mod Given
pub mod Entries
pub mod Served
