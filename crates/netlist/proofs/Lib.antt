pub mod Agreement
pub mod Ruled
pub mod RunLaws
pub mod FitLaws
pub mod Scoped
pub mod Kept
pub mod Named
mod Naming
mod Resolving
mod Declaring
mod Profiles
mod Driving
mod Fine
mod Turning
mod Making
