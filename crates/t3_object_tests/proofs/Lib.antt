pub mod OrderRising
pub mod Places
pub mod Journals
pub mod WholeVectors
