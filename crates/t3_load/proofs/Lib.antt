mod Tables
mod Named
mod FirstSymbols
mod Reading
mod ReadObjects
mod Repeated
pub mod RuleSteps
pub mod EntryRules
pub mod Firsts
pub mod ObjectRules
pub mod OneObject
pub mod SuperRules
pub mod Halving
pub mod ByNumber
mod WithSupers
mod Rising
pub mod Starting
pub mod NameRules
pub mod LoadSteps
pub mod Decided
pub mod DecidedPools
pub mod DecidedCycles
pub mod DecidedObjects
pub mod OneAnswer
pub mod SomeAnswer
