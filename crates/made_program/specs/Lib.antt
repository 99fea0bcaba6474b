pub mod Draws
pub mod Images
pub mod Programs
pub mod Summary
pub mod Sums
