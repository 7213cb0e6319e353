pub mod BlockName
pub mod Spelling
pub mod Malformed
pub mod Parsing
pub mod Inner
