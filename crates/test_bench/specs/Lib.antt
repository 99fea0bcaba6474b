pub mod Batches
pub mod Clocking
pub mod BatchClocks
pub mod Writing
pub mod Filling
pub mod Drives
