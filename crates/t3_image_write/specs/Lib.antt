pub mod Masks
pub mod Rewriting
