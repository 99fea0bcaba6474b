pub mod Ascii
pub mod Types
pub mod Numbers
pub mod Operators
pub mod Frames
pub mod FrameSizes
pub mod Stencils
pub mod Steps
