pub mod Bytes
pub mod Lexis
pub mod Answer
pub mod Faithful
pub mod Words
