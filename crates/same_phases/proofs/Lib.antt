mod Words
mod Meant
mod Arithmetic
mod Rounds
mod PhaseReads
mod Played
pub mod Types
mod Whole
