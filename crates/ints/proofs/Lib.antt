pub mod Bound
pub mod Computation
pub mod Machine
pub mod Float
pub mod Auto
