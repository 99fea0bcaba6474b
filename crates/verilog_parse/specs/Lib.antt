pub mod Forms
pub mod Sections
pub mod Fault
pub mod Named
