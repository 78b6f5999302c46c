pub mod Line
pub mod Sums
