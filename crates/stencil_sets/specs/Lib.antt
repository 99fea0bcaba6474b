pub mod Paths
pub mod Found
pub mod Live
pub mod Marks
pub mod Faults
