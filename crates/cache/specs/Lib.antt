pub mod Room
pub mod AsLent
