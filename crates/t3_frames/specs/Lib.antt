pub mod Frame
pub mod Inner
