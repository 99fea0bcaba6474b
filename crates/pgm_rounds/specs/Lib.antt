pub mod Ports
pub mod Files
pub mod Standing
