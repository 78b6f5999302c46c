-- What a walk has at a window: its state, the way's stores, its histogram and its box, and what every call on a window leaves alone. One predicate
-- over the way serves start, move and both loops.
-- Assumes nothing.
use Rattle.std.specs.Prelude.{ℕ, ◌+◌, ◌≤◌, ◌≡◌, ◌⊎◌, true, List, [], length, take, drop, ℤ}
use Rattle.spec.specs.declared.Settings.{Settings}
use Rattle.spec.specs.declared.Plan.{Plan}
use Rattle.spec.specs.declared.Way.{Way}
use Rattle.spec.specs.declared.Way.TheVariants.{Joint, Columns, Chain, Coarse}
use Rattle.spec.specs.Frame.{Frame, plan_of, frame_of, frame_with}
use Rattle.window.specs.Sums.{SumsAt}
use Rattle.joint_visit.specs.Visit as joint
use Rattle.levels.specs.Tally.{BelowAt}
use Rattle.chain.specs.Moves.{Listed}
use Rattle.spec.specs.Walk.{State}
use Rattle.spec.specs.Joint.{balance_box_at}
use Rattle.spec.specs.Calls.{BothKinds, room_of, counts_of, words_of, NumbersOf, zeros}
use Rattle.visit.specs.declared.Running.{Running}
use Rattle.visit.specs.declared.Visit.{Visit}
use Rattle.visit.specs.Visit.{state_of}

-- the stores that a window changes
pub record Stores : Type 0 where
  pub counts : List ℕ
  pub words : List ℕ
  pub numbers : List ℕ

abbrev pub stores : List ℕ → List ℕ → List ℕ → Stores
stores a b c = record { counts = a; words = b; numbers = c }

-- there is room for what the way uses
pub record StoresFit (way : Way) (settings : Settings) (held : Stores) : Type 0 where
  pub counts : (room_of way settings).counts ≤ length held.counts
  pub words : (room_of way settings).words ≤ length held.words
  pub numbers : (room_of way settings).numbers ≤ length held.numbers

-- the stores are those of the window at (s, t)
pub record StoresHold (way : Way) (p : Frame) (s t : ℕ) (held : Stores) : Type 0 where
  pub counts : take (room_of way p.set).counts held.counts ≡ counts_of way p s t
  pub words : take (room_of way p.set).words held.words ≡ words_of way p s t
  pub numbers : NumbersOf way p s t held.numbers

-- the walk's own box there, with the cut point c: way 4's is not handed back
unfoldable pub own_box : Way → Frame → ℕ → ℕ → ℕ → List ℤ
own_box Joint p s t c = balance_box_at p s t c
own_box Columns p s t c = zeros
own_box Chain p s t c = zeros
own_box Coarse p s t c = balance_box_at p s t (joint.box_cut true p.set.kind c)

-- a list keeps its length, and all that lies beyond its first n numbers
pub record KeptBeyond (n : ℕ) (before after : List ℕ) : Type 0 where
  pub long : length after ≡ length before
  pub beyond : drop n after ≡ drop n before

-- the stores keep all that lies beyond what the way uses
pub record RestKept (way : Way) (settings : Settings) (before after : Stores) : Type 0 where
  pub counts : KeptBeyond (room_of way settings).counts before.counts after.counts
  pub words : KeptBeyond (room_of way settings).words before.words after.words
  pub numbers : KeptBeyond (room_of way settings).numbers before.numbers after.numbers

-- what the way carries to the next window of a file with its own values or those of a plane, beside the window's sums: columns the tally up to the
-- cut point, joint and coarse that tally and the histogram of levels, the chain its free list in the numbers
unfoldable pub WayCarries : Way → (file plane : List ℕ) → ℕ → ℕ → ℕ → (numbers histogram : List ℕ) → Running → Type 0
WayCarries Joint b vs s t c numbers histogram r = joint.JointCarried (frame_with b vs) s t c r.sums r.below histogram
WayCarries Columns b vs s t c numbers histogram r = SumsAt (frame_with b vs) s t r.sums × BelowAt (frame_with b vs) s t (c + 1) r.below
WayCarries Chain b vs s t c numbers histogram r = SumsAt (frame_with b vs) s t r.sums × Listed b (plan_of b) s t r.free numbers
WayCarries Coarse b vs s t c numbers histogram r = joint.JointCarried (frame_with b vs) s t c r.sums r.below histogram

-- the way serves the plan's kind; a plane given in place of the file's values, which is none where it is empty, is for way 1 in kind 1 alone
abbrev pub Serves : Way → Plan → List ℕ → Type 0
Serves way plan values = (BothKinds way ⊎ (plan.kind ≡ 2)) × ((values ≡ []) ⊎ ((way ≡ Joint) × (plan.kind ≡ 1)))

-- the stores, the box and what is carried are those of the visit's window in the file b, with its own values or those of a plane
pub record AtWindow (way : Way) (b vs : List ℕ) (held : Stores) (histogram : List ℕ) (box : List ℤ) (v : Visit) : Type 0 where
  pub holds : StoresHold way (frame_with b vs) v.column v.row held
  pub balance-box : box ≡ own_box way (frame_with b vs) v.column v.row v.cut.0
  pub carried : WayCarries way b vs v.column v.row v.cut.0 held.numbers histogram v.running

-- what each call on a window leaves: the state x, the window's stores, histogram and box, and the rest as it was
pub record Visited (way : Way) (b vs : List ℕ) (x : State) (before after : Stores) (histogram : List ℕ) (box : List ℤ) (v : Visit) : Type 0 where
  pub state : state_of way v ≡ x
  pub here : AtWindow way b vs after histogram box v
  pub kept : RestKept way (frame_of b).set before after
