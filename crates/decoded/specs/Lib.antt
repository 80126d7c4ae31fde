-- What the promises of `decoded` speak of.
pub mod Table
pub mod Entries
pub mod Indexes
pub mod Meaning
pub mod Right
pub mod Values
