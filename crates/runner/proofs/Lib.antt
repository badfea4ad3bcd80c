pub mod Room
pub mod Stepping
