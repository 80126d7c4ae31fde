-- Laws of the tables, for the proofs of the readers.
pub mod RowLaws
