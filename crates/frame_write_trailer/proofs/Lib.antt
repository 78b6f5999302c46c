pub mod TrailerLaws
