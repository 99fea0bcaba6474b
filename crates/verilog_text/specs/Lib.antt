pub mod Bytes
pub mod Lexis
pub mod Grammar
pub mod Limits
pub mod Stands
pub mod Faults
