pub mod BitLaws
pub mod RepLaws
pub mod SideLaws
