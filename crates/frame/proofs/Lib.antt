pub mod Planning
pub mod Shown
