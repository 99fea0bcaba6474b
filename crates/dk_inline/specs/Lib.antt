pub mod Inlined
pub mod Nodes
pub mod Answers
pub mod Extents
pub mod Folded
pub mod Standing
pub mod Worked
