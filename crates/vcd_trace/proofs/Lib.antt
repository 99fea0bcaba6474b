pub mod Lines
pub mod Whole
mod Places
pub mod Numbers
pub mod Clocks
pub mod Rooms
pub mod Readings
pub mod Agreeing
pub mod Clockwise
pub mod Timewise
pub mod Headings
