-- Laws of `typing`.
pub mod MarkLaws
pub mod KeyLaws
pub mod WantLaws
pub mod StepLaws
pub mod AnswerLaws
