pub mod Spelled
pub mod Worded
pub mod Treed
pub mod Scoped
pub mod Naming
