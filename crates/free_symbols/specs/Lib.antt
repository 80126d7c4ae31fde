-- What the promises of `free_symbols` speak of.
pub mod Free
