pub mod Slices
pub mod Store
