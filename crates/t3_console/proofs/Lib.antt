pub mod Appending
pub mod Stepping
pub mod Rendering
pub mod Lines
pub mod Pages
pub mod Shown
pub mod Output
