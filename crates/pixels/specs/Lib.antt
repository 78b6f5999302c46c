pub mod Pixels
pub mod Additive
pub mod Sums
