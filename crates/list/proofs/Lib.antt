-- Laws of the statement list, for the proofs here and in the crates above.
pub mod Walks
pub mod Wanted
pub mod Framed
pub mod EntryTests
pub mod Parts
pub mod TypesExact
pub mod LeastFault
pub mod SymbolTypes
pub mod Written
pub mod Operands
pub mod Passes
