mod Holders
mod Actions
mod Making
pub mod Frames
mod Finding
mod Creating
mod Evaluating
mod Setting
pub mod Variables
pub mod Calling
mod Builtins
pub mod Instructions
