pub mod NumberText
pub mod HolderText
pub mod FileName
