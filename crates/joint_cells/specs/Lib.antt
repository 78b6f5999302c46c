pub mod Scan
pub mod Box
pub mod Vacant
