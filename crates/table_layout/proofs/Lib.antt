-- Laws of the layout, for the proofs of the table's crates.
pub mod FieldLaws
