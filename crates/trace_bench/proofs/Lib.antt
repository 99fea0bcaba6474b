pub mod Texts
pub mod Going
pub mod Pixels
pub mod Fitting
pub mod Traced
pub mod OneRun
