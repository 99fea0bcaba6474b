pub mod Aged
pub mod Distinct
pub mod Finding
pub mod Once
