pub mod Holders
pub mod Numbers
