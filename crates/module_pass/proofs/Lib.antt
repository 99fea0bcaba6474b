pub mod Following
pub mod Chained
pub mod MadeNames
