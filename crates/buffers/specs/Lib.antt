-- What the promises of `buffers` speak of.
pub mod Over
