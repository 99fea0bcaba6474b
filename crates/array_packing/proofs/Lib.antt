pub mod Parts
pub mod Simulating
pub mod Inner
pub mod Whole
pub mod Seen
pub mod Reached
pub mod Marking
pub mod Places
