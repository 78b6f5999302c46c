pub mod Keys
pub mod Lines
pub mod Moves
