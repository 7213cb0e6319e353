pub mod Keeping
pub mod Breaking
pub mod Gathering
pub mod Reading
