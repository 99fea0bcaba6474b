pub mod LaneRows
pub mod TakenBack
