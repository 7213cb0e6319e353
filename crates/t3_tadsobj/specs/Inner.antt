-- What only private functions cite.
pub mod Entries
pub mod Visits
pub mod ComponentSteps
pub mod ComponentWalk
