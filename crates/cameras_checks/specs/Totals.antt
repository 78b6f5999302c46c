-- What the checks of a batch of files find: a refusal; or what their parts take together, and their pixels.
-- Assumes nothing.
use Rattle.std.specs.Prelude.{ℕ, ◌+◌, ◌*◌, ◌≤◌, ◌≡◌, List, map, set, Result, IfOk}
use Rattle.spec.specs.declared.Refusal.{Refusal}
use Rattle.spec.specs.declared.Settings.{Settings}
use Rattle.spec.specs.declared.Way.TheVariants.{Joint}
use Rattle.spec.specs.Refusal.{numbered}
use Rattle.spec.specs.Frame.{pixels}
use Rattle.spec.specs.Calls.{room_of}
use Rattle.spec.specs.Cameras.{files_in, total, counts_room, words_room, pixels_in, sizes_of, verdicts, cameras_outcome}
use Rattle.cameras_checks.specs.declared.Totals.{Totals}

-- the totals of i files are no sums that a number could not hold
pub record TotalsLow (i : ℕ) (t : Totals) : Type 0 where
  pub counts : t.counts ≤ i * 262144
  pub words : t.words ≤ i * 262144
  pub answers : t.answers ≤ i * 262144

-- the totals with a file of these settings more, which is file i
pub record Added (settings : Settings) (i : ℕ) (t r : Totals) : Type 0 where
  pub counts : r.counts ≡ t.counts + (room_of Joint settings).counts
  pub words : r.words ≡ t.words + (room_of Joint settings).words
  pub answers : r.answers ≡ t.answers + pixels settings
  pub sizes : r.sizes ≡ set t.sizes i (pixels settings)

-- of some files
pub record TotalsOf (fs : List (List ℕ)) (t : Totals) : Type 0 where
  pub counts : t.counts ≡ total (map counts_room fs)
  pub words : t.words ≡ total (map words_room fs)
  pub answers : t.answers ≡ total (map pixels_in fs)
  pub sizes : t.sizes ≡ sizes_of fs

-- checks 1 to 7 of some files
pub record FilesRead (fs : List (List ℕ)) (r : Result Totals Refusal) : Type 0 where
  pub verdict : numbered r ≡ verdicts fs
  pub totals : IfOk r (TotalsOf fs)

-- all checks
pub record BatchRead (b lengths limits : List ℕ) (counts words answers : ℕ) (r : Result Totals Refusal) : Type 0 where
  pub verdict : numbered r ≡ cameras_outcome b lengths limits counts words answers
  pub sizes : IfOk r (λ t. t.sizes ≡ sizes_of (files_in lengths b))
