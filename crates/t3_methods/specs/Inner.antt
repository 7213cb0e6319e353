pub mod Window
pub mod Rows
pub mod Cases
pub mod Tables
pub mod Decoding
