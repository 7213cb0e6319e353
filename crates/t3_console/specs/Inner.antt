-- What only private functions cite.
pub mod Stepping
pub mod Appending
pub mod Ending
