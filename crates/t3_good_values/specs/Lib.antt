pub mod Values
pub mod Stores
