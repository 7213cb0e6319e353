pub mod Layout
pub mod State
pub mod Refusal
pub mod Read
pub mod Building
pub mod Savable
pub mod Good
pub mod Inner
