pub mod Comparing
mod Cases
pub mod Made
