-- What the promises of `shelf_service` speak of.
pub mod Shelf
