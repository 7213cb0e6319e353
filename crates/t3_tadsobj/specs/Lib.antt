pub mod Object
pub mod Props
pub mod Order
pub mod Cycles
pub mod Inner
