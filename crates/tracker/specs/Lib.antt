pub mod Claiming
pub mod Marks
pub mod Walking
