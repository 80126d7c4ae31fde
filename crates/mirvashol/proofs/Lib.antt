-- Laws of giving an answer, and that there is no second one.
mod Serving
pub mod Once
