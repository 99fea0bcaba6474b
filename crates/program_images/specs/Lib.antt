pub mod Ports
pub mod Outputs
pub mod Writing
