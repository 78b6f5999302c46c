pub mod Parts
pub mod Contract
