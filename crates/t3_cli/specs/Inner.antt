-- What only the contracts of private functions cite.
pub mod NoImage
pub mod Reading
pub mod Showing
pub mod Following
