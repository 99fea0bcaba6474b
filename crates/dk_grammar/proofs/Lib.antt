pub mod Clears
pub mod Stucks
pub mod Chains
pub mod Faulty
pub mod Spellings
pub mod FaultyLines
