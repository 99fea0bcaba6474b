pub mod Layout
pub mod Printable
pub mod Worked
