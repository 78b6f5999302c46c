-- Assumes nothing.
pub mod Putting
pub mod Digits
pub mod Rows
pub mod Lengths
