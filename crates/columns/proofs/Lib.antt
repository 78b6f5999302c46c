pub mod BlockLaws
pub mod ContentLaws
pub mod StoreLaws
pub mod SideLaws
pub mod MoveLaws
