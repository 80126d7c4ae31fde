-- Laws of the judge's walk.
pub mod MeaningBytes
pub mod DueBytes
pub mod TableMeanings
pub mod SayLaws
pub mod DueLaws
pub mod TurnLaws
pub mod SaidLaws
pub mod FindRange
pub mod FindLaws
pub mod ReadLaws
pub mod ListedLaws
pub mod WalkLaws
