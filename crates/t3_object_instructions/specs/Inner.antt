-- What only the contracts of private functions cite.
pub mod Finding
pub mod Naming
