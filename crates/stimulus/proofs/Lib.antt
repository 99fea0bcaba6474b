pub mod Runs
pub mod Inputs
pub mod Streams
pub mod Stimuli
pub mod Ranges
pub mod Benches
pub mod Countdown
pub mod Takings
