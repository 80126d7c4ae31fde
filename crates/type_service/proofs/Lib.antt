-- Laws of the services that write a file, and of the type service.
pub mod ServiceLaws
pub mod Typable
