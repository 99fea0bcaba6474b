pub mod Tree
pub mod Solutions
