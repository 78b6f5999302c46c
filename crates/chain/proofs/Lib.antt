pub mod KeyLaws
pub mod MergeLaws
pub mod LineLaws
pub mod ReadLaws
pub mod WindowLaws
pub mod MoveLaws
