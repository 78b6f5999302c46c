-- What way 2 has at a window of a walk: the window's sums, the tally of its levels up to the cut point, and the store.
-- Assumes nothing.
use Rattle.std.specs.Prelude.{◌≡◌, List, ◌++◌, ℕ, ◌+◌, ◌*◌, take, drop}
use Rattle.spec.specs.declared.Plan.{Plan}
use Rattle.spec.specs.declared.Way.TheVariants.{Columns}
use Rattle.spec.specs.Calls.{room_of}
use Rattle.spec.specs.Columns.{column_store}
use Rattle.spec.specs.Frame.{Frame}
use Rattle.spec.specs.Walk.{State}
use Rattle.window.specs.Sums.{SumsAt}
use Rattle.levels.specs.Tally.{BelowAt}
use Rattle.visit.specs.declared.Visit.{Visit}
use Rattle.visit.specs.Visit.{state_of}

-- the window's counts of each level in a store, and its guide sums
abbrev pub window_counts : Plan → List ℕ → List ℕ
window_counts plan xs = take plan.levels (drop (2 * plan.width * plan.levels) xs)

abbrev pub window_guides : Plan → List ℕ → List ℕ
window_guides plan xs = take plan.levels (drop (2 * plan.width * plan.levels + plan.levels) xs)

-- the numbers xs with the store of the window at (s, t) in front
abbrev pub store_at : Frame → ℕ → ℕ → List ℕ → List ℕ
store_at p s t xs = column_store p s t ++ drop (room_of Columns p.set).numbers xs

-- the visit is in the state x, its sums and the tally up to the cut point run along, and the store xs has become ys, that of its window; nothing
-- beyond the way's numbers has changed
pub record ColumnsVisited (p : Frame) (x : State) (xs : List ℕ) (v : Visit) (ys : List ℕ) : Type 0 where
  pub state : state_of Columns v ≡ x
  pub sums : SumsAt p v.column v.row v.running.sums
  pub below : BelowAt p v.column v.row (v.cut.0 + 1) v.running.below
  pub store : ys ≡ store_at p v.column v.row xs

-- the store xs is that of the visit's window already
abbrev pub ColumnsAt : Frame → Visit → List ℕ → Type 0
ColumnsAt p v xs = ColumnsVisited p (state_of Columns v) xs v xs
