-- What the promises of `table_naming` speak of.
pub mod Naming
