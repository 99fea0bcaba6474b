pub mod Code
pub mod Rights
pub mod Rows
pub mod Seen
pub mod LaneSizes
pub mod Uses
