-- The window's counts and guide sums of each level as two lists, and what is answered from them.
-- Assumes nothing.
use Rattle.std.specs.Prelude.{◌≡◌, Bool, true, List, ℕ, ◌+◌, ◌≤◌, ◌<◌, length, get_or, ℤ}
use Rattle.spec.specs.declared.Way.{Way}
use Rattle.spec.specs.Frame.{Frame, guide}
use Rattle.spec.specs.Window.{level_sum}
use Rattle.spec.specs.Walk.{arrive}
use Rattle.window_weights.specs.declared.coefficients.Coefficients.{Coefficients}
use Rattle.level_search.specs.declared.Tally.{Tally}
use Rattle.level_search.specs.declared.search.Found.{Found}
use Rattle.levels.specs.Tally.{BelowAt}
use Rattle.level_search.specs.Search.{TallyTo, ListsSearchable, Rising}
use Rattle.level_search.specs.Block.{EndsBelow, Heaviest}

-- the two lists are those of the window at (s, t)
pub record Profiled (p : Frame) (s t : ℕ) (counts sums : List ℕ) : Type 0 where
  pub count_long : length counts ≡ p.set.levels
  pub sum_long : length sums ≡ p.set.levels
  pub count_cell : (i : ℕ) → i < p.set.levels → get_or counts i 0 ≡ level_sum p s t (λ x y. 1) i
  pub sum_cell : (i : ℕ) → i < p.set.levels → get_or sums i 0 ≡ level_sum p s t (guide p) i

-- what an answer asks, by the coefficients over so many guides: a search that ends, and what no pixel outweighs; of a monotone window also that the
-- cumulative weight never falls
pub record Answerable (coefficients : Coefficients) (guides : ℕ) (monotone : Bool) (n : ℕ) (counts sums : List ℕ) : Type 0 where
  pub search : ListsSearchable coefficients counts sums
  pub heaviest : (w : ℤ) → EndsBelow coefficients guides w → Heaviest coefficients counts sums w
  pub guides_some : 1 ≤ guides
  pub guides_high : guides ≤ 256
  pub shifts : n ≤ 4294967296
  pub rising : monotone ≡ true → Rising coefficients counts sums

-- and from the cut point c: of a monotone window the tally of the levels up to it
pub record FromCut (monotone : Bool) (c : ℕ) (a : Tally) (counts sums : List ℕ) : Type 0 where
  pub cut : c < length counts
  pub tally : monotone ≡ true → TallyTo counts sums (c + 1) a

-- come to (s, t) by a way with the cut point c and the shift count n: the answer is the new cut point, and the tally is that of the levels up to it
pub record Answered (way : Way) (p : Frame) (s t c n : ℕ) (f : Found) : Type 0 where
  pub answer : f.level.0 ≡ (arrive way p s t c n).answer
  pub cut : f.level.0 ≡ (arrive way p s t c n).cut
  pub shifts : f.shifts ≡ (arrive way p s t c n).shifts
  pub below : BelowAt p s t (f.level.0 + 1) f.tally
