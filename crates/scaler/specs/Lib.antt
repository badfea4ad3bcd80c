pub mod Scale
pub mod Bounds
pub mod Cases
pub mod Fractions
