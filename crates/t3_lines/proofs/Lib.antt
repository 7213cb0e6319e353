mod Readable
mod Pieces
mod Cutting
mod TakenPieces
mod Sounding
pub mod Inputs
