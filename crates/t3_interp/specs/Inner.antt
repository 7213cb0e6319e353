-- What only the contracts of private functions cite.
pub mod Acting
pub mod DecodeCache
pub mod Quick
pub mod Superinstruction
