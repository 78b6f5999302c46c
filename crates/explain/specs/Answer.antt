-- The answer of the window at (s, t), with a reading: its weight, the level, and what the levels below it and up to it weigh.
-- Assumes nothing.
use Rattle.std.specs.Prelude.{◌≡◌, ℕ}
use Rattle.spec.specs.Frame.{Frame}
use Rattle.spec.specs.Median.{total_weight, cumulative, answer}
use Rattle.spec.specs.Explain.{cumulative_below}
use Rattle.explain.specs.declared.Answered.{Answered}

pub record AnswerReached (p : Frame) (s t : ℕ) (r : Answered) : Type 0 where
  pub total : r.total ≡ total_weight p s t
  pub level : r.half.level.0 ≡ answer p s t
  pub below : r.half.below ≡ cumulative_below p s t (answer p s t)
  pub reached : r.half.reached ≡ cumulative p s t (answer p s t)
