-- What a window of kind 1 adds to a walk, with the cut point c and n shifts before it.
-- Assumes nothing.
use Rattle.std.specs.Prelude.{◌≡◌, List, ℕ, ℤ}
use Rattle.spec.specs.declared.Way.{Way}
use Rattle.spec.specs.Frame.{Frame}
use Rattle.spec.specs.Joint.{balance_box_at}
use Rattle.spec.specs.Walk.{arrive}
use Rattle.joint_search.specs.declared.find.SearchEnd.{SearchEnd}

-- the cut point, the shifts and the box after it
pub record Arrives (way : Way) (p : Frame) (s t c n : ℕ) (r : SearchEnd) (bx : List ℤ) : Type 0 where
  pub level : r.level.0 ≡ (arrive way p s t c n).cut
  pub shifts : r.shifts ≡ (arrive way p s t c n).shifts
  pub box : bx ≡ balance_box_at p s t r.level.0
