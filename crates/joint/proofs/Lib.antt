pub mod ListLaws
pub mod WindowLaws
pub mod StartLaws
pub mod PixelLaws
