-- What the promises of `compile_service` speak of.
pub mod Files
