pub mod ElementStamps
pub mod ElementLists
pub mod ElementPurges
pub mod Items
pub mod ItemValues
