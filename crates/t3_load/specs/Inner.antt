pub mod Listing
pub mod Reading
pub mod Deciding
pub mod Objects
pub mod Numbers
pub mod Halves
pub mod Supers
