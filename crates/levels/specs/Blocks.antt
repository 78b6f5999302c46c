-- A search by blocks of 16 levels, by the window's counts and guide sums as two lists.
-- Assumes nothing.
use Rattle.std.specs.Prelude.{◌≡◌, List, ℕ, ◌+◌, ◌*◌, ◌<◌, length}
use Rattle.window_weights.specs.declared.coefficients.Coefficients.{Coefficients}
use Rattle.level_search.specs.declared.search.Found.{Found}
use Rattle.level_search.specs.Search.{TallyTo, FailTo, first_level}

-- f is at the first level of a block, with the tally of the levels below it, all of which fall short; and the answer is in the block
pub record FirstBlock (coefficients : Coefficients) (counts sums : List ℕ) (f : Found) : Type 0 where
  pub block : (b : ℕ) × (f.level.0 ≡ 16 * b)
  pub low : f.level.0 < length counts
  pub tally : TallyTo counts sums f.level.0 f.tally
  pub fails : FailTo coefficients counts sums f.level.0
  pub near : first_level coefficients counts sums < f.level.0 + 16
