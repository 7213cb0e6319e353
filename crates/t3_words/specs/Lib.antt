pub mod Number
pub mod Options
pub mod Command
pub mod Input
pub mod Verbs
pub mod Inner
