pub mod Agreement
pub mod Typed
pub mod Defined
pub mod Pictured
pub mod Chains
pub mod Rewritten
pub mod Operated
pub mod ReadLists
