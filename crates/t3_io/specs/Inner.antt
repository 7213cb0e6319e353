-- What only private types cite.
pub mod Kept
