pub mod Operators
pub mod Levels
pub mod Deep
pub mod Reasons
pub mod Counted
pub mod Worked
