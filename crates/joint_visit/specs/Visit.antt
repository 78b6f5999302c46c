-- A walk at a window, in either kind.
-- Assumes nothing.
use Rattle.std.specs.Prelude.{◌≡◌, Bool, ◌⊎◌, List, [], ℕ, eqb, ℤ, if◌then◌else◌}
use Rattle.spec.specs.declared.Plan.{Plan}
use Rattle.spec.specs.declared.Way.{Way}
use Rattle.spec.specs.declared.Way.TheVariants.{Joint, Coarse}
use Rattle.spec.specs.Frame.{Frame}
use Rattle.spec.specs.Window.{pixel_count}
use Rattle.spec.specs.Walk.{State, by_blocks}
use Rattle.window.specs.declared.sums.Sums.{Sums}
use Rattle.level_search.specs.declared.Tally.{Tally}
use Rattle.joint.specs.Window.{JointAt}
use Rattle.joint_guided.specs.Guided.{GuidedAt}
use Rattle.visit.specs.declared.Visit.{Visit}
use Rattle.visit.specs.Visit.{state_of}

-- ways 1 and 4
abbrev pub JointWay : Way → Type 0
JointWay way = (way ≡ Joint) ⊎ (way ≡ Coarse)

-- a plane given in place of the file's values is for kind 1 alone
abbrev pub PlaneServes : Plan → List ℕ → Type 0
PlaneServes plan values = plan.kind ≡ 2 → values ≡ []

-- the level that the box is kept at, with the walk's cut point c
unfoldable pub box_cut : Bool → ℕ → ℕ → ℕ
box_cut blocks kind c = if eqb kind 2 then (if blocks then 0 else c) else c

-- what is carried beside the stores: the number of the window's pixels, and in kind 2 all that its search goes by
pub record JointCarried (p : Frame) (s t c : ℕ) (a : Sums) (w : Tally) (ns : List ℕ) : Type 0 where
  pub count : a.count ≡ pixel_count p s t
  pub guided : p.set.kind ≡ 2 → GuidedAt p s t c a w ns

-- the visit is in the state x, and the stores, which held xs and ws, the box and the histogram are those of its window; nothing beyond the way's
-- stores has changed
pub record JointVisited (way : Way) (p : Frame) (x : State) (v : Visit) (xs ws xs' ws' : List ℕ) (bx' : List ℤ) (ns' : List ℕ) : Type 0 where
  pub state : state_of way v ≡ x
  pub joint : JointAt p v.column v.row (box_cut (by_blocks way) p.set.kind v.cut.0) xs ws xs' ws' bx'
  pub carried : JointCarried p v.column v.row v.cut.0 v.running.sums v.running.below ns'
