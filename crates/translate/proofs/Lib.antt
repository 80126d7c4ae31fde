-- Laws of the translation into bytes.
pub mod BuiltLaws
pub mod Writing
pub mod Building
pub mod Giving
pub mod StepLaws
pub mod StepWriting
pub mod StepsLaws
pub mod Starting
