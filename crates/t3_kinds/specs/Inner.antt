-- What only private functions' contracts cite.
pub mod Deeds
pub mod Finding
pub mod Selves
