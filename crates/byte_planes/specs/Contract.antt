-- What the two calls on byte planes promise, of every input: the verdict, and the output before and after. Where it is accepted, the output holds the
-- rearranged file and then what lay beyond; where it is refused, all is as it was.
-- Assumes nothing.
use Rattle.std.specs.Prelude.{◌≡◌, ℕ, List, length, Result}
use Rattle.spec.specs.declared.Refusal.{Refusal}
use Rattle.spec.specs.Refusal.{numbered}
use Rattle.spec.specs.Writer.{stored}
use Rattle.spec.specs.BytePlanes.{split_file, joined_file, split_outcome, join_outcome}

pub record Splits (b old : List ℕ) (r : Result (Unit {0}) Refusal) (new : List ℕ) : Type 0 where
  pub verdict : numbered r ≡ split_outcome b (length old)
  pub output : new ≡ stored (split_outcome b (length old)) (split_file b) old

pub record Joins (b old : List ℕ) (r : Result (Unit {0}) Refusal) (new : List ℕ) : Type 0 where
  pub verdict : numbered r ≡ join_outcome b (length old)
  pub output : new ≡ stored (join_outcome b (length old)) (joined_file b) old
