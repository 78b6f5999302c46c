pub mod Grants
pub mod Fairness
