-- What only private functions' contracts cite.
pub mod Rings
pub mod KeyOrder
pub mod OptionalHolder
