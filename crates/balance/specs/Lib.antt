pub mod Formula
pub mod Balance
