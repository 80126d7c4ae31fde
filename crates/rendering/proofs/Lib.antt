-- Laws of `rendering`, for the proofs of the crates above.
pub mod Base
pub mod ActLaws
pub mod RuleLaws
pub mod MeaningLaws
pub mod TurnLaws
pub mod JudgeLaws
pub mod FreeLaws
pub mod Counting
pub mod MadeLaws
pub mod BuildLaws
pub mod StepLaws
pub mod TranslationLaws
pub mod ListLaws
pub mod ExampleProofs
pub mod Version1Laws
