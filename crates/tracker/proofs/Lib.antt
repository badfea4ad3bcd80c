pub mod Claiming
pub mod Marks
pub mod Stops
pub mod Hottest
pub mod Walking
