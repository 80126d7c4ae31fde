-- Laws of number 11.
pub mod MatchLaws
