pub mod Planes
pub mod Rounds
pub mod Needs
pub mod Narrow
pub mod Lanes
pub mod Steps
pub mod ElementKinds
