pub mod Acts
pub mod Shown
pub mod Cutting
mod LastReads
pub mod Asks
pub mod Runs
mod Screens
mod PlayedActs
mod PlayedRests
mod PlayedTurns
mod PlayedRuns
