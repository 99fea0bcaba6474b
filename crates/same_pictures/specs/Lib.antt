pub mod Same
pub mod Matching
