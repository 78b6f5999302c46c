pub mod SumLaws
pub mod CoefficientLaws
