pub mod SearchLaws
pub mod BlockLaws
