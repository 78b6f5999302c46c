pub mod Laws
pub mod PixelLaws
