-- Laws of number 14.
pub mod StartLaws
pub mod Once
