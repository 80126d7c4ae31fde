-- What is proved of the tables of texts as files.
pub mod Statements
