-- What only private functions' contracts cite.
pub mod Reading
pub mod Envelope
pub mod Writing
pub mod Body
