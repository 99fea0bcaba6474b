pub mod Written
pub mod Taken
