pub mod Rendering
pub mod Page
pub mod Output
pub mod Inner
