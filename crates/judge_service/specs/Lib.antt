-- What the promises of `judge_service` speak of.
pub mod Judged
