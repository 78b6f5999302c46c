-- Assumes nothing.
pub mod Answering
pub mod Serving
