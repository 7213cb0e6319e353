pub mod Table
pub mod Order
pub mod Entries
pub mod Inner
