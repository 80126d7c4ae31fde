-- Laws of the two counts.
pub mod RoomLaws
