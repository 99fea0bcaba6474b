pub mod Stimulus
pub mod Given
pub mod Showing
pub mod Stops
pub mod Inputs
