-- Blocks of 16 levels that a climb can pass over.
-- Assumes nothing.
use Rattle.std.specs.Prelude.{List, ℕ, ◌+◌, ◌-◌, ◌≤◌, ◌<◌, ℤ, pos, nat_abs, ◌+ℤ◌, ◌*ℤ◌, length, get_or, ◌≤ℤ◌, ◌<ℤ◌}
use Rattle.window_weights.specs.declared.coefficients.Coefficients.{Coefficients}
use Rattle.window_weights.specs.Coefficients.{weight_of}
use Rattle.level_search.specs.Search.{sum_to}

-- w is at least 0 and at least each end of the weight formula, over so many guides
pub record EndsBelow (coefficients : Coefficients) (guides : ℕ) (w : ℤ) : Type 0 where
  pub low : coefficients.offset ≤ℤ w
  pub high : (coefficients.slope *ℤ pos (guides - 1) +ℤ coefficients.offset) ≤ℤ w
  pub not_negative : pos 0 ≤ℤ w
  pub small : nat_abs w ≤ 240207812100

-- a level weighs at most w for each of its pixels
pub record Heaviest (coefficients : Coefficients) (counts sums : List ℕ) (w : ℤ) : Type 0 where
  pub level : (i : ℕ) → i < length counts → weight_of coefficients (get_or counts i 0) (get_or sums i 0) ≤ℤ (w *ℤ pos (get_or counts i 0))
  pub not_negative : pos 0 ≤ℤ w
  pub small : nat_abs w ≤ 240207812100

-- the levels i to i + 15 are there, and with w for each of their pixels the tally below them still weighs less than half
pub record Light (coefficients : Coefficients) (w : ℤ) (counts : List ℕ) (i count sum : ℕ) : Type 0 where
  pub whole : i + 16 ≤ length counts
  pub short : (pos 2 *ℤ (weight_of coefficients count sum +ℤ w *ℤ pos (sum_to counts (i + 16) - sum_to counts i))) <ℤ coefficients.total
