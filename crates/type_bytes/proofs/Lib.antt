-- Laws of `type_bytes`, for the proofs of the crates above.
pub mod EndLaws
pub mod CountLaws
pub mod HowLaws
pub mod MeetLaws
