pub mod SumLaws
pub mod ChainLaws
pub mod LinkLaws
pub mod FreeLaws
pub mod StoreLaws
pub mod PixelLaws
pub mod InsertLaws
pub mod ClearLaws
