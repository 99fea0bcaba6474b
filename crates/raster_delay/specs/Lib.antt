pub mod Network
pub mod Delays
pub mod Placing
pub mod Systems
