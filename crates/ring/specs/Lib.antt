pub mod Ring
pub mod Moves
