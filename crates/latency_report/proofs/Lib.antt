pub mod Lines
pub mod Loops
pub mod Splits
pub mod Whole
pub mod Rising
pub mod Meeting
