pub mod ImageText
pub mod Validity
pub mod Refusal
pub mod Numbers
pub mod Reader
pub mod Inner
