pub mod WalkLoop
