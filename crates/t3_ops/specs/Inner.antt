-- What only private functions' contracts cite.
pub mod Walk
pub mod Outcomes
pub mod Containers
