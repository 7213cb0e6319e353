pub mod OrderedEntries
pub mod NumberedSlots
pub mod Defaults
pub mod TableLists
pub mod EntryOrder
pub mod EntryValues
pub mod EntryUnits
pub mod TablePurges
