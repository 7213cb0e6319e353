pub mod Status
pub mod Lines
pub mod BlockLines
pub mod Plan
pub mod Outcome
pub mod Cause
pub mod Top
pub mod Inner
