-- The list of demand 3 and what is claimed after it; document 01's sample as such a list; the idle versions that have to break it.
pub mod List
pub mod Demand3
pub mod Sample
pub mod Idle
