pub mod Table
pub mod BytePlanes
pub mod Cameras
pub mod Demands
