pub mod Numbers
pub mod Runs
pub mod Symbols
pub mod Gaps
pub mod Lefts
pub mod Positive
pub mod Ends
pub mod Cuts
