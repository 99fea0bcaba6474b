pub mod Ends
pub mod Fewest
pub mod Ranged
pub mod Imaged
mod Spans
mod Widened
