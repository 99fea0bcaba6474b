pub mod Once
pub mod Ports
pub mod Forms
pub mod Counts
pub mod Copied
pub mod Apart
pub mod Agreed
pub mod Numbers
pub mod Total
pub mod Searches
pub mod Sweeps
pub mod Decided
pub mod Listed
pub mod Stenciled
pub mod AtAge
pub mod Errors
pub mod LatePictures
pub mod DrivePictures
pub mod Rounds
pub mod Printed
pub mod Circuits
pub mod Same
mod Deep
mod Clocked
pub mod Packing
pub mod Widened
pub mod Narrowed
pub mod Correct
