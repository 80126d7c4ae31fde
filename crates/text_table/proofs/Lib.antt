-- Laws of the tables of texts as files.
pub mod FileLayout
pub mod Passing
pub mod Accepted
pub mod OnlyNine
