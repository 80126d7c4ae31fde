-- What the promises of `table_binding` speak of.
pub mod Binding
pub mod Tables
