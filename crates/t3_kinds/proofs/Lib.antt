pub mod Searching
pub mod Changing
pub mod Elements
pub mod Keys
pub mod Characters
pub mod Clones
pub mod Finding
pub mod Coming
