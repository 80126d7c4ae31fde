-- What the promises of `type_lists` speak of.
pub mod Lists
