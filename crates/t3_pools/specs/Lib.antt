pub mod Pool
pub mod First
pub mod Building
pub mod Finding
pub mod Constants
pub mod Inner
