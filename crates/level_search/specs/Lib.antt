pub mod Search
pub mod Block
