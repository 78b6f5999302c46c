pub mod LevelsLaws
pub mod SearchLaws
pub mod WindowLaws
pub mod EmptyLaws
