pub mod Values
mod Lists
pub mod Moved
pub mod Numbers
pub mod Seen
