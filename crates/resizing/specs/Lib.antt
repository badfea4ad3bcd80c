-- Resizing: what it does, what its loops ask of the memories, and the words of what is promised of it.
pub mod Resize
pub mod Room
pub mod Kept
