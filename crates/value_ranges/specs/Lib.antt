pub mod Intervals
pub mod Ranges
pub mod Parts
pub mod Images
pub mod Wider
