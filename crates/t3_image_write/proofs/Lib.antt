pub mod Parts
pub mod Remasked
pub mod Rewriting
