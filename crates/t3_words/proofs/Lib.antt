pub mod OptionValues
pub mod Spelled
