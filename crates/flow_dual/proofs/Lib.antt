pub mod Pushes
pub mod Raising
pub mod Least
pub mod Optimal
pub mod Rooted
pub mod Balances
pub mod Networks
