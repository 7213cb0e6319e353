pub mod Lining
pub mod FileRead
pub mod Results
mod InputOutcomes
pub mod Followed
pub mod Answered
pub mod Causes
mod Digested
