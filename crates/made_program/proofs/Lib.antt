pub mod Definitions
pub mod Digits
pub mod Drawing
pub mod Joins
pub mod Lengths
pub mod Reading
pub mod Rounds
pub mod Samples
