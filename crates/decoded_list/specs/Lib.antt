-- What the promises of `decoded_list` speak of.
pub mod Bytes
pub mod Statements
pub mod Decoded
pub mod Form
