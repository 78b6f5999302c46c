pub mod Histogram
pub mod Places
