pub mod Tops
pub mod Calls
