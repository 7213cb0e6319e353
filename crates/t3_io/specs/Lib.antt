pub mod Files
pub mod Cause
pub mod Reading
pub mod Putting
pub mod Session
pub mod Inner
pub mod Failing
