-- Assumes nothing.
pub mod Admission
