-- What only private functions' contracts cite.
pub mod Shapes
pub mod Entries
pub mod Valid
pub mod Bounded
pub mod Store
pub mod Whole
pub mod Numbers
