-- Laws of the number of statements, and what 1 to 9 leave of a table for the theorems of its translation.
pub mod Totals
pub mod Counts
pub mod Ranged
