-- Laws of the types that are written one after the other.
pub mod SlotTypes
pub mod ListLaws
