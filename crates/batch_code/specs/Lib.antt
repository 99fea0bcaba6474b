pub mod Batch
pub mod Code
pub mod Parts
pub mod Rows
pub mod Streams
