pub mod Layout
pub mod Header
pub mod Told
pub mod Replayed
pub mod Steps
pub mod Answers
