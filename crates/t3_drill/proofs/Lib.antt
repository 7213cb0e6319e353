pub mod Numbers
pub mod Texts
pub mod Lengths
pub mod Valid
