-- What only private functions cite.
pub mod Tables
pub mod Drafts
pub mod Forming
pub mod Measures
pub mod Listed
