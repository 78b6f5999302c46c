-- What the tolerance call promises, of every input.
-- Assumes nothing.
use Rattle.std.specs.Prelude.{ℕ, ◌≡◌, List, ◌++◌, length, drop, Result, IfOk}
use Rattle.spec.specs.declared.Refusal.{Refusal}
use Rattle.spec.specs.declared.Room.{Room}
use Rattle.spec.specs.declared.Way.TheVariants.{Joint}
use Rattle.spec.specs.Refusal.{Outcome, accepted, numbered}
use Rattle.spec.specs.Frame.{Frame, pixels, frame_of, with_values}
use Rattle.spec.specs.Filter.{filtered, filter_end}
use Rattle.spec.specs.Calls.{room_of, counts_of, words_of}
use Rattle.spec.specs.Tolerance.{tolerance_outcome}
use Rattle.tolerance.specs.declared.Tolerated.{Tolerated}

-- what is lent: way 1's two stores, and an output for the least and for the greatest answers
pub record Buffers : Type 0 where
  pub counts : List ℕ
  pub words : List ℕ
  pub least : List ℕ
  pub greatest : List ℕ

abbrev pub buffers : List ℕ → List ℕ → List ℕ → List ℕ → Buffers
buffers counts words least greatest = record { counts = counts; words = words; least = least; greatest = greatest }

-- the outcome of the call on a file's bytes b with a plane of upper levels
abbrev pub stores_in : Buffers → Room
stores_in held = record { counts = length held.counts; words = length held.words; numbers = 0; summary = 0 }

abbrev pub outcome_of : List ℕ → List ℕ → Buffers → Outcome
outcome_of b upper before = tolerance_outcome b upper (stores_in before) (length before.least) (length before.greatest)

-- a refused call: every buffer as it was
pub record AllKept (before after : Buffers) : Type 0 where
  pub counts : after.counts ≡ before.counts
  pub words : after.words ≡ before.words
  pub least : after.least ≡ before.least
  pub greatest : after.greatest ≡ before.greatest

-- the frame p and then the frame q, of the same settings, filtered by way 1: each output the plane of answers and then what lay beyond, both shift
-- counts, and the stores of the last window of q
pub record BothFiltered (p q : Frame) (before after : Buffers) (r : Tolerated) : Type 0 where
  pub least-shifts : r.least_shifts ≡ (filter_end Joint p).shifts
  pub greatest-shifts : r.greatest_shifts ≡ (filter_end Joint q).shifts
  pub least : after.least ≡ filtered p ++ drop (pixels p.set) before.least
  pub greatest : after.greatest ≡ filtered q ++ drop (pixels p.set) before.greatest
  pub counts : after.counts ≡ counts_of Joint q (filter_end Joint q).column (filter_end Joint q).row
      ++ drop (room_of Joint p.set).counts before.counts
  pub words : after.words ≡ words_of Joint q (filter_end Joint q).column (filter_end Joint q).row
      ++ drop (room_of Joint p.set).words before.words

-- the call: the frame of the file, and the same with the upper levels as its values
pub record Tolerates (b upper : List ℕ) (before after : Buffers) (r : Result Tolerated Refusal) : Type 0 where
  pub verdict : numbered r ≡ outcome_of b upper before
  pub refused : (outcome_of b upper before ≡ accepted → ⊥) → AllKept before after
  pub filtered : outcome_of b upper before ≡ accepted → IfOk r (BothFiltered (frame_of b) (with_values (frame_of b) upper) before after)
