-- Assumes nothing.
pub mod Text
