pub mod Laws
pub mod WholeLaws
pub mod AdditiveLaws
pub mod SumLaws
