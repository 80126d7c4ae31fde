-- What the promises of `room_counts` speak of.
pub mod Room
