pub mod FormLaws
pub mod LineLaws
pub mod PixelLaws
