pub mod FirstUses
pub mod Masks
pub mod Order
pub mod Running
pub mod Sized
