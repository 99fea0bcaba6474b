pub mod Within
pub mod Enables
