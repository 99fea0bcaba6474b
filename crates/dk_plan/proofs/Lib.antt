pub mod Printing
pub mod Reporting
pub mod Exits
pub mod Once
