-- Assumes nothing.
pub mod Answer
