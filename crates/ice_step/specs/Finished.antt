-- What a caller lends, and what a loop leaves.
-- Assumes nothing.
use Rattle.std.specs.Prelude.{◌≡◌, true, false, List, ◌++◌, ℕ, ◌≤◌, ℤ, length, drop}
use Rattle.spec.specs.declared.Room.{Room}
use Rattle.spec.specs.declared.Settings.{Settings}
use Rattle.spec.specs.declared.Way.{Way}
use Rattle.spec.specs.Frame.{Frame}
use Rattle.spec.specs.Walk.{State, by_blocks}
use Rattle.spec.specs.Calls.{room_of, box_of, summary_of, zeros}
use Rattle.ways.specs.Visit.{Stores, stores, StoresFit, StoresHold, RestKept}
use Rattle.ice_step.specs.declared.Walked.{Walked}

-- the stores that windows change, and the summary, which is made at the end
pub record Lent : Type 0 where
  pub stores : Stores
  pub summary : List ℤ

abbrev pub lent : List ℕ → List ℕ → List ℕ → List ℤ → Lent
lent a b c d = record { stores = stores a b c; summary = d }

-- how much was lent
abbrev pub room_in : Lent → Room
room_in held =
    record {
      counts = length held.stores.counts;
      words = length held.stores.words;
      numbers = length held.stores.numbers;
      summary = length held.summary;
    }

-- there is room for what the way uses
pub record LentFits (way : Way) (settings : Settings) (held : Lent) : Type 0 where
  pub stores : StoresFit way settings held.stores
  pub summary : (room_of way settings).summary ≤ length held.summary

-- a loop's last call, at the window at (s, t) of a frame: by blocks the summary is made and the box zeroed, else both stay
pub record EndMade (way : Way) (p : Frame) (s t : ℕ) (box before after box' : List ℤ) : Type 0 where
  pub blocks : by_blocks way ≡ true → (box' ≡ zeros) × (after ≡ summary_of way p s t ++ drop (room_of way p.set).summary before)
  pub levels : by_blocks way ≡ false → (box' ≡ box) × (after ≡ before)

-- at the end in the state x: the summary, and the box for the result
pub record HandedBack (way : Way) (p : Frame) (x : State) (before after : List ℤ) (box : List ℤ) : Type 0 where
  pub balance-box : box ≡ box_of way p x.column x.row x.cut
  pub summary : after ≡ summary_of way p x.column x.row ++ drop (room_of way p.set).summary before

-- the result of a loop that ended in the state x, and the summary
pub record Closed (way : Way) (p : Frame) (x : State) (before after : List ℤ) (r : Walked) : Type 0 where
  pub shifts : r.shifts ≡ x.shifts
  pub cut : r.cut.0 ≡ x.cut
  pub handed_back : HandedBack way p x before after r.balance_box

-- and the stores of its last window
pub record Finished (way : Way) (p : Frame) (x : State) (before after : Lent) (r : Walked) : Type 0 where
  pub closed : Closed way p x before.summary after.summary r
  pub holds : StoresHold way p x.column x.row after.stores
  pub kept : RestKept way p.set before.stores after.stores
