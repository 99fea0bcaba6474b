pub mod Headers
pub mod Images
pub mod Answers
pub mod Scans
pub mod Automaton
pub mod Rasters
pub mod Rounds
