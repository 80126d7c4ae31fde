-- Laws of the visible-type test.
pub mod SeenLaws
pub mod WalkLaws
