pub mod GuidedLaws
