-- What the promises of `compile` speak of.
pub mod Printed
