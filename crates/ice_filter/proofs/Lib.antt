pub mod FilterLoop
