pub mod PartLaws
pub mod ServeLaws
pub mod CallLaws
pub mod EachPart
