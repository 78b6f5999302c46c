pub mod Table
pub mod Weights
