pub mod Moves
pub mod Paths
