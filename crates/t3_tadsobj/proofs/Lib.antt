pub mod PropLists
pub mod EntryLists
mod EntryPurges
pub mod PropRows
pub mod PropValues
pub mod OrderMembers
pub mod OrderDepth
pub mod OrderClosed
pub mod OrderVisits
pub mod OrderChains
pub mod CycleLists
pub mod CycleSteps
pub mod CycleMerges
pub mod CycleEnds
pub mod CycleRests
