-- What a walk carries in kind 2, and what a window answers and adds, with the cut point c and n shifts before it.
-- Assumes nothing.
use Rattle.std.specs.Prelude.{◌≡◌, List, ℕ, ◌+◌, ℤ, take, drop}
use Rattle.spec.specs.declared.Way.TheVariants.{Joint, Coarse}
use Rattle.spec.specs.Frame.{Frame}
use Rattle.spec.specs.Joint.{balance_box_at}
use Rattle.spec.specs.Walk.{arrive}
use Rattle.window.specs.declared.sums.Sums.{Sums}
use Rattle.window.specs.Sums.{SumsAt}
use Rattle.histogram.specs.Histogram.{Histogram}
use Rattle.level_search.specs.declared.Tally.{Tally}
use Rattle.levels.specs.Tally.{BelowAt}
use Rattle.visit.specs.declared.Visit.{Visit}
use Rattle.visit.specs.Visit.{state_of}

-- a histogram's two lists, the counts of its l levels and behind them the guide sums
abbrev pub counts_in : ℕ → List ℕ → List ℕ
counts_in l ns = take l ns

abbrev pub guide_sums_in : ℕ → List ℕ → List ℕ
guide_sums_in l ns = take l (drop l ns)

-- beside the stores: the window's sums, its tally of the levels up to the cut point, and its histogram of levels
pub record GuidedAt (p : Frame) (s t c : ℕ) (a : Sums) (w : Tally) (ns : List ℕ) : Type 0 where
  pub sums : SumsAt p s t a
  pub below : BelowAt p s t (c + 1) w
  pub histogram : Histogram p s t ns

-- way 1: the visit is in its state, with the box, and all of that, at its cut point
pub record GuidedVisited (p : Frame) (s t c n : ℕ) (v : Visit) (bx : List ℤ) (ns : List ℕ) : Type 0 where
  pub state : state_of Joint v ≡ arrive Joint p s t c n
  pub box : bx ≡ balance_box_at p s t v.cut.0
  pub guided : GuidedAt p s t v.cut.0 v.running.sums v.running.below ns

-- way 4: the same without a box
pub record BlocksVisited (p : Frame) (s t c n : ℕ) (v : Visit) (ns : List ℕ) : Type 0 where
  pub state : state_of Coarse v ≡ arrive Coarse p s t c n
  pub guided : GuidedAt p s t v.cut.0 v.running.sums v.running.below ns
