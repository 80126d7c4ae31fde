-- What the promises of `type_service` speak of.
pub mod Services
