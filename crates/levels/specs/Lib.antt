pub mod Tally
pub mod Answer
pub mod Blocks
pub mod ListTally
