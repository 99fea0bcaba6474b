pub mod Reports
pub mod Layout
pub mod Texts
pub mod Reading
pub mod Answers
pub mod Steps
