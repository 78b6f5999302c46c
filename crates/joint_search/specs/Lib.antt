pub mod Levels
pub mod Search
pub mod Window
