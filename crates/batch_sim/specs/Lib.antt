pub mod Arrays
pub mod Called
pub mod Checked
pub mod Engine
pub mod Pieces
pub mod Shown
pub mod Stored
