-- What the promises of `slots` speak of.
pub mod Terms
pub mod Fit
pub mod Slots
pub mod Push
