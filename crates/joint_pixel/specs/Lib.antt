pub mod Bit
pub mod Store
pub mod Side
