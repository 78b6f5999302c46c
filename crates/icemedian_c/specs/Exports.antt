-- What the exported calls give back: the results of the calls that they stand for.
-- Assumes nothing.
use Rattle.std.specs.Prelude.{ℕ, ◌+◌, ◌≡◌, List, ◌++◌, ℤ, length, drop}
use Rattle.spec.specs.declared.Settings.{Settings}
use Rattle.spec.specs.declared.Way.{Way}
use Rattle.spec.specs.declared.Way.TheVariants.{Joint}
use Rattle.spec.specs.Refusal.{Outcome, accepted}
use Rattle.spec.specs.Frame.{Frame, frame_of, with_values, pixels}
use Rattle.spec.specs.Window.{pixel_count}
use Rattle.spec.specs.Median.{total_weight, cumulative, balance, answer}
use Rattle.spec.specs.Explain.{cumulative_below, cause_of}
use Rattle.spec.specs.Walk.{State, walk_end, walk_answers}
use Rattle.spec.specs.Filter.{filtered, filter_end}
use Rattle.spec.specs.Calls.{way_of, box_of, walk_outcome, filter_outcome, balance_outcome, explain_outcome}
use Rattle.spec.specs.Writer.{written, written_size, writer_outcome, stored}
use Rattle.spec.specs.BytePlanes.{split_file, joined_file, split_outcome, join_outcome}
use Rattle.spec.specs.Cameras.{files_in, round_of}
use Rattle.c_values.specs.Results.{status_of, given, Reported, cause_number, LentGrounds}
use Rattle.ice_step.specs.declared.Walked.{Walked}
use Rattle.ice_step.specs.Finished.{Lent, room_in}
use Rattle.ice.specs.Contract.{Ended}
use Rattle.tolerance.specs.declared.Tolerated.{Tolerated}
use Rattle.tolerance.specs.Contract.{Buffers, outcome_of, BothFiltered}
use Rattle.ice_prefix.specs.Prefix.{Parts}
use Rattle.cameras.specs.Parts.{AllMade}
use Rattle.cameras.specs.Contract as cameras

-- ---- walk and filter

-- the result of a walk that ended at the state x
abbrev pub result_at : Way → Frame → State → Walked
result_at way p x =
    record { shifts = x.shifts; cut = record { 0 = x.cut }; balance_box = box_of way p x.column x.row x.cut }

-- of an outcome o and the state x at the end: the stores, the answers or the output, and the shift count, each before and after
pub record Called (o : Outcome) (way : Way) (p : Frame) (x : State) (before after : Lent) (due old new : List ℕ) (shifts₀ shifts : ℕ)
    : Type 0 where
  pub shifts_is : shifts ≡ given o x.shifts shifts₀
  pub refused_keeps : (o ≡ accepted → ⊥) → (after ≡ before) × (new ≡ old)
  pub accepted_ends : o ≡ accepted → Ended way p x before after due new (result_at way p x)

-- the outcome, the end and the answers of a walk over the file's bytes b
module _ (b : List ℕ) (way s t : ℕ) (moves : List ℕ) where
  abbrev pub walk_verdict : Lent → List ℕ → Outcome
  walk_verdict before old = walk_outcome b way s t (length moves) (room_in before) (length old)

  -- the results: the shift count, the cut and the balance box, each before and after
  pub record WalkCall (before after : Lent) (old new : List ℕ) (r shifts₀ shifts cut₀ cut : ℕ) (box₀ box : List ℤ)
      (offset₀ offset : ℕ) : Type 0 where
    pub reported : Reported (walk_verdict before old) r offset₀ offset
    pub called : Called (walk_verdict before old) (way_of way) (frame_of b) (walk_end (way_of way) (frame_of b) s t moves) before after
        (walk_answers (frame_of b) s t moves ++ drop (length moves + 1) old) old new shifts₀ shifts
    pub cut-is : cut ≡ given (walk_verdict before old) (walk_end (way_of way) (frame_of b) s t moves).cut cut₀
    pub box-is : box ≡ given (walk_verdict before old)
        (result_at (way_of way) (frame_of b) (walk_end (way_of way) (frame_of b) s t moves)).balance_box box₀

pub record FilterCall (b : List ℕ) (way : ℕ) (before after : Lent) (old new : List ℕ) (r shifts₀ shifts offset₀ offset : ℕ) : Type 0 where
  pub reported : Reported (filter_outcome b way (room_in before) (length old)) r offset₀ offset
  pub called : Called (filter_outcome b way (room_in before) (length old)) (way_of way) (frame_of b) (filter_end (way_of way) (frame_of b))
      before after (filtered (frame_of b) ++ drop (pixels (frame_of b).set) old) old new shifts₀ shifts

-- ---- tolerance

-- the result of the call on two frames
abbrev pub tolerated_at : Frame → Frame → Tolerated
tolerated_at p q =
    record { least_shifts = (filter_end Joint p).shifts; greatest_shifts = (filter_end Joint q).shifts }

-- each shift count before and after
pub record ToleranceCall (b upper : List ℕ) (before after : Buffers) (r least₀ least greatest₀ greatest offset₀ offset : ℕ) : Type 0 where
  pub reported : Reported (outcome_of b upper before) r offset₀ offset
  pub least_is : least ≡ given (outcome_of b upper before) (filter_end Joint (frame_of b)).shifts least₀
  pub greatest_is : greatest ≡ given (outcome_of b upper before) (filter_end Joint (with_values (frame_of b) upper)).shifts greatest₀
  pub refused_keeps : (outcome_of b upper before ≡ accepted → ⊥) → after ≡ before
  pub accepted_ends : outcome_of b upper before ≡ accepted
      → BothFiltered (frame_of b) (with_values (frame_of b) upper) before after (tolerated_at (frame_of b) (with_values (frame_of b) upper))

-- ---- balance

pub record BalanceCall (b : List ℕ) (s t i r : ℕ) (old new : ℤ) (offset₀ offset : ℕ) : Type 0 where
  pub reported : Reported (balance_outcome b s t i) r offset₀ offset
  pub balance_is : new ≡ given (balance_outcome b s t i) (balance (frame_of b) s t i) old

-- ---- explain

pub record ExplainCall (b : List ℕ) (s t r : ℕ) (before after : LentGrounds) (offset₀ offset : ℕ) : Type 0 where
  pub reported : Reported (explain_outcome b s t) r offset₀ offset
  pub pixels_is : after.pixels ≡ given (explain_outcome b s t) (pixel_count (frame_of b) s t) before.pixels
  pub total_is : after.total ≡ given (explain_outcome b s t) (total_weight (frame_of b) s t) before.total
  pub level_is : after.level ≡ given (explain_outcome b s t) (answer (frame_of b) s t) before.level
  pub below_is : after.below ≡ given (explain_outcome b s t) (cumulative_below (frame_of b) s t (answer (frame_of b) s t)) before.below
  pub reached_is : after.reached ≡ given (explain_outcome b s t) (cumulative (frame_of b) s t (answer (frame_of b) s t)) before.reached
  pub cause_is : after.cause ≡ given (explain_outcome b s t) (cause_number (cause_of (frame_of b) s t)) before.cause

-- ---- write

pub record WriteCall (settings : Settings) (v g a old new : List ℕ) (r len₀ len offset₀ offset : ℕ) : Type 0 where
  pub reported : Reported (writer_outcome settings v g a (length old)) r offset₀ offset
  pub length_is : len ≡ given (writer_outcome settings v g a (length old)) (written_size settings (length a)) len₀
  pub output : new ≡ stored (writer_outcome settings v g a (length old)) (written settings v g a) old

-- ---- split and join

pub record SplitCall (b old new : List ℕ) (r offset₀ offset : ℕ) : Type 0 where
  pub reported : Reported (split_outcome b (length old)) r offset₀ offset
  pub output : new ≡ stored (split_outcome b (length old)) (split_file b) old

-- there is no offset: no check of the call has one
pub record JoinCall (b old new : List ℕ) (r : ℕ) : Type 0 where
  pub status_is : r ≡ status_of (join_outcome b (length old))
  pub output : new ≡ stored (join_outcome b (length old)) (joined_file b) old

-- ---- cameras

-- the count of grants before and after
pub record CamerasCall (b lengths limits : List ℕ) (before after : Parts) (r grants₀ grants offset₀ offset : ℕ) : Type 0 where
  pub reported : Reported (cameras.outcome_of b lengths limits before) r offset₀ offset
  pub grants_is : grants ≡ given (cameras.outcome_of b lengths limits before) (round_of (files_in lengths b) limits).granted grants₀
  pub refused_keeps : (cameras.outcome_of b lengths limits before ≡ accepted → ⊥) → after ≡ before
  pub accepted_ends : cameras.outcome_of b lengths limits before ≡ accepted
      → AllMade (files_in lengths b) (round_of (files_in lengths b) limits).tallies before after
