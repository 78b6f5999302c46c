pub mod TallyLaws
pub mod AnswerLaws
pub mod BlockLaws
pub mod ListTallyLaws
