pub mod Classes
pub mod Expected
