pub mod Engine
pub mod Guess
pub mod Table
