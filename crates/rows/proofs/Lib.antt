pub mod Digits
pub mod Sizes
pub mod Written
