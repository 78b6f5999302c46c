-- What the call over up to eight files promises, of every input.
-- Assumes nothing.
use Rattle.std.specs.Prelude.{◌≡◌, List, ℕ, length, Result, IfOk}
use Rattle.spec.specs.declared.Refusal.{Refusal}
use Rattle.spec.specs.Refusal.{Outcome, accepted, numbered}
use Rattle.spec.specs.Cameras.{files_in, round_of, cameras_outcome}
use Rattle.ice_prefix.specs.Prefix.{Parts}
use Rattle.cameras.specs.Parts.{AllMade}

-- the outcome of the call on the files in b, with counts, words and answers lent
abbrev pub outcome_of : List ℕ → List ℕ → List ℕ → Parts → Outcome
outcome_of b lengths limits before = cameras_outcome b lengths limits (length before.counts) (length before.words) (length before.answers)

-- a refused call: every buffer as it was
pub record AllKept (before after : Parts) : Type 0 where
  pub counts : after.counts ≡ before.counts
  pub words : after.words ≡ before.words
  pub answers : after.answers ≡ before.answers

-- the grants made, and the parts of each file by its tally
pub record Shared (fs : List (List ℕ)) (limits : List ℕ) (before after : Parts) (n : ℕ) : Type 0 where
  pub grants : n ≡ (round_of fs limits).granted
  pub made : AllMade fs (round_of fs limits).tallies before after

pub record Schedules (b lengths limits : List ℕ) (before after : Parts) (r : Result ℕ Refusal) : Type 0 where
  pub verdict : numbered r ≡ outcome_of b lengths limits before
  pub refused : (outcome_of b lengths limits before ≡ accepted → ⊥) → AllKept before after
  pub shared : outcome_of b lengths limits before ≡ accepted → IfOk r (Shared (files_in lengths b) limits before after)
