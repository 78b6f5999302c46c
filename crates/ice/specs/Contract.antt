-- What walk, filter, balance and explain promise, of every input: the outcome; on refusal, that nothing changed; else the result and every buffer.
-- A result is a value exactly where the outcome is accepted.
-- Assumes nothing.
use Rattle.std.specs.Prelude.{ℕ, ◌+◌, ◌≡◌, List, ◌++◌, length, drop, ℤ, Result, IfOk}
use Rattle.spec.specs.declared.Grounds.{Grounds}
use Rattle.spec.specs.declared.Refusal.{Refusal}
use Rattle.spec.specs.declared.Settings.{Settings}
use Rattle.spec.specs.declared.Room.{Room}
use Rattle.spec.specs.declared.Way.{Way}
use Rattle.spec.specs.Refusal.{Outcome, accepted, numbered}
use Rattle.spec.specs.Frame.{Frame, frame_of, pixels}
use Rattle.spec.specs.Median.{balance}
use Rattle.spec.specs.Explain.{Grounded}
use Rattle.spec.specs.Walk.{State, walk_end, walk_answers}
use Rattle.spec.specs.Filter.{filtered, filter_end}
use Rattle.spec.specs.Calls.{
  way_of,
  room_of,
  counts_of,
  words_of,
  NumbersOf,
  summary_of,
  box_of,
  zeros,
  walk_outcome,
  filter_outcome,
  balance_outcome,
  explain_outcome,
}
use Rattle.ice_step.specs.declared.Walked.{Walked}
use Rattle.ice_step.specs.Finished.{Lent, room_in}

-- a refused call: every buffer as it was
pub record Untouched (before after : Lent) (old new : List ℕ) : Type 0 where
  pub counts : after.stores.counts ≡ before.stores.counts
  pub words : after.stores.words ≡ before.stores.words
  pub numbers : after.stores.numbers ≡ before.stores.numbers
  pub summary : after.summary ≡ before.summary
  pub answers : new ≡ old

-- a call that ended at the state x, in a frame p: the way's stores for its window, then what lay beyond; the other stores as they were
-- (`counts_of`, `words_of`, `summary_of` are empty and `room_of` is 0 for a store that the way does not use); and the list that the answers are to be
pub record Ended (way : Way) (p : Frame) (x : State) (before after : Lent) (due new : List ℕ) (r : Walked) : Type 0 where
  pub shifts : r.shifts ≡ x.shifts
  pub cut : r.cut.0 ≡ x.cut
  pub balance-box : r.balance_box ≡ box_of way p x.column x.row x.cut
  pub counts : after.stores.counts ≡ counts_of way p x.column x.row ++ drop (room_of way p.set).counts before.stores.counts
  pub words : after.stores.words ≡ words_of way p x.column x.row ++ drop (room_of way p.set).words before.stores.words
  pub numbers : NumbersOf way p x.column x.row after.stores.numbers
  pub numbers_long : length after.stores.numbers ≡ length before.stores.numbers
  pub numbers_rest : drop (room_of way p.set).numbers after.stores.numbers ≡ drop (room_of way p.set).numbers before.stores.numbers
  pub summary : after.summary ≡ summary_of way p x.column x.row ++ drop (room_of way p.set).summary before.summary
  pub answers : new ≡ due

-- walk: of the file's bytes b, the way's number, the start (s, t), the list of moves, and the stores and answers before and after
pub record Walks (b : List ℕ) (way s t : ℕ) (moves : List ℕ) (before after : Lent) (old new : List ℕ) (r : Result Walked Refusal) : Type 0 where
  pub verdict : numbered r ≡ walk_outcome b way s t (length moves) (room_in before) (length old)
  pub refused : (walk_outcome b way s t (length moves) (room_in before) (length old) ≡ accepted → ⊥) → Untouched before after old new
  pub walked : walk_outcome b way s t (length moves) (room_in before) (length old) ≡ accepted
      → IfOk r (Ended (way_of way) (frame_of b) (walk_end (way_of way) (frame_of b) s t moves) before after (walk_answers (frame_of b) s t moves
      ++ drop (length moves + 1) old) new)

-- filter
pub record Filters (b : List ℕ) (way : ℕ) (before after : Lent) (old new : List ℕ) (r : Result Walked Refusal) : Type 0 where
  pub verdict : numbered r ≡ filter_outcome b way (room_in before) (length old)
  pub refused : (filter_outcome b way (room_in before) (length old) ≡ accepted → ⊥) → Untouched before after old new
  pub filtered : filter_outcome b way (room_in before) (length old) ≡ accepted
      → IfOk r (Ended (way_of way) (frame_of b) (filter_end (way_of way) (frame_of b)) before after
      (filtered (frame_of b) ++ drop (pixels (frame_of b).set) old) new)

-- balance
pub record Balances (b : List ℕ) (s t i : ℕ) (r : Result ℤ Refusal) : Type 0 where
  pub verdict : numbered r ≡ balance_outcome b s t i
  pub balanced : balance_outcome b s t i ≡ accepted → IfOk r (λ n. n ≡ balance (frame_of b) s t i)

-- explain
pub record Explains (b : List ℕ) (s t : ℕ) (r : Result Grounds Refusal) : Type 0 where
  pub verdict : numbered r ≡ explain_outcome b s t
  pub explained : explain_outcome b s t ≡ accepted → IfOk r (Grounded (frame_of b) s t)
