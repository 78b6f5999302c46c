pub mod OutcomeLaws
pub mod CallLaws
