-- Assumes nothing.
pub mod Admitted
