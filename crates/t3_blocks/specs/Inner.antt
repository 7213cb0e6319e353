-- What only the code inside cites: the answers of the functions that append texts and take them apart.
pub mod Appending
pub mod Lists
pub mod Metas
