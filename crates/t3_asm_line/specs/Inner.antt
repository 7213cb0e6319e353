-- What only private functions cite.
pub mod Clipped
pub mod Escaped
pub mod Reading
pub mod Rows
