-- Laws of the list that the compile service writes.
pub mod FileLaws
pub mod ReadBack
