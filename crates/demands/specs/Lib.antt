pub mod Table
pub mod Cameras
pub mod Demands
