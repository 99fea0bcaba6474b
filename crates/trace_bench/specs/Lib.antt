pub mod Traces
pub mod Tracers
pub mod Going
