pub mod Act
pub mod Showing
pub mod Asking
pub mod EndLines
pub mod Run
pub mod Running
pub mod Cause
pub mod Inner
