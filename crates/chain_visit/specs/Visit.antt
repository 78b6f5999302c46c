-- What way 3 has at a window of a walk: the window's sums, and its list in the store.
-- Assumes nothing.
use Rattle.std.specs.Prelude.{◌≡◌, List, ℕ}
use Rattle.spec.specs.declared.Plan.{Plan}
use Rattle.spec.specs.Frame.{frame_of}
use Rattle.spec.specs.Walk.{State}
use Rattle.window.specs.Sums.{SumsAt}
use Rattle.chain.specs.Moves.{Listed, Stored}
use Rattle.visit.specs.declared.Visit.{Visit}
use Rattle.spec.specs.declared.Way.TheVariants.{Chain}
use Rattle.visit.specs.Visit.{state_of}

-- the store m holds the list of the visit's window, and its sums and the free list run along
pub record ChainAt (b : List ℕ) (plan : Plan) (v : Visit) (m : List ℕ) : Type 0 where
  pub sums : SumsAt (frame_of b) v.column v.row v.running.sums
  pub listed : Listed b plan v.column v.row v.running.free m

-- the visit is in the state x, and the store m has become m', which holds its window; nothing beyond the way's numbers has changed
pub record ChainVisited (b : List ℕ) (plan : Plan) (x : State) (m : List ℕ) (v : Visit) (m' : List ℕ) : Type 0 where
  pub state : state_of Chain v ≡ x
  pub sums : SumsAt (frame_of b) v.column v.row v.running.sums
  pub stored : Stored b plan v.column v.row m v.running.free m'
