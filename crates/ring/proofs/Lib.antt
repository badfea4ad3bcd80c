pub mod Apart
pub mod Nearest
pub mod Verdict
pub mod Moves
pub mod PutIn
pub mod HostStore
pub mod Computing
pub mod Examples
