pub mod Laws
pub mod StartLaws
