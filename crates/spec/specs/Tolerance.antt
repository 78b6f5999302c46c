-- Document 02, ask 7: levels known within a tolerance. A second value plane has each reading's upper level; which frames lie between the two, what is
-- the least and the greatest answer over all of them, and the outcome of the call that gives both.
-- Assumes nothing.
use Rattle.std.specs.Prelude.{ℕ, ◌≤◌, ◌<◌, ◌/◌, ◌%◌, ◌≡◌, Bool, true, not, ◌||◌, List, leb, ltb, eqb, length, get_or, if◌then◌else◌}
use Rattle.spec.specs.declared.Settings.{Settings}
use Rattle.spec.specs.declared.Room.{Room}
use Rattle.spec.specs.Base.{first, tabulate}
use Rattle.spec.specs.Refusal.{Outcome, ◌▷◌, refuse}
use Rattle.spec.specs.Frame.{Frame, level, no_reading, pixels, with_values, settings_of, pixel_level}
use Rattle.spec.specs.Checks.{verdict}
use Rattle.spec.specs.Window.{empty}
use Rattle.spec.specs.Filter.{filtered}
use Rattle.spec.specs.Calls.{short}

-- a frame's own value plane
unfoldable pub own_values : Frame → List ℕ
own_values p = tabulate (pixels p.set) (λ q. level p (q % p.set.width) (q / p.set.width))

-- a choice of values: at each pixel one from the lower plane's to the upper's. Where both have no reading, so has every choice
pub record Choice (settings : Settings) (lower upper values : List ℕ) : Type 0 where
  pub long : length values ≡ pixels settings
  pub above : (q : ℕ) → q < pixels settings → get_or lower q 0 ≤ get_or values q 0
  pub below : (q : ℕ) → q < pixels settings → get_or values q 0 ≤ get_or upper q 0

-- two planes of answers are the least and the greatest over every choice, at each pixel; and both are reached, each by one choice for all pixels at
-- once. Where the window has no reading, every choice answers so
pub record LeastAndGreatest (p : Frame) (lower upper least greatest : List ℕ) : Type 0 where
  pub lower_chosen : Choice p.set lower upper lower
  pub upper_chosen : Choice p.set lower upper upper
  pub lower_reached : filtered (with_values p lower) ≡ least
  pub upper_reached : filtered (with_values p upper) ≡ greatest
  pub at_least : (values : List ℕ) → Choice p.set lower upper values → (q : ℕ) → q < pixels p.set
      → get_or least q 0 ≤ get_or (filtered (with_values p values)) q 0
  pub at_most : (values : List ℕ) → Choice p.set lower upper values → (q : ℕ) → q < pixels p.set
      → get_or (filtered (with_values p values)) q 0 ≤ get_or greatest q 0
  pub none_read : (values : List ℕ) → Choice p.set lower upper values → (q : ℕ) → q < pixels p.set
      → empty p (q % p.set.width) (q / p.set.width) ≡ true → get_or (filtered (with_values p values)) q 0 ≡ no_reading

-- ---- the checks of the call

-- a reading and its upper level that do not go together: only one of the two is dead, the reading is above its upper level, or that is none of the
-- levels
unfoldable pub bad_span : ℕ → ℕ → ℕ → Bool
bad_span levels reading upper = if eqb reading no_reading then not (eqb upper no_reading) else (ltb upper reading || leb levels upper)

-- check 13, of a file's bytes and a plane of upper levels: its length, and each pixel in turn
unfoldable pub bad_upper : List ℕ → List ℕ → Bool
bad_upper b upper =
    let k = settings_of b in
    let n = pixels k in
    not (eqb (length upper) n) || ltb (first (λ q. bad_span k.levels (pixel_level b q) (get_or upper q 0)) n) n

-- way 1 alone serves, in kind 1 alone; lent its stores, and two outputs of so many numbers
unfoldable pub tolerance_checks : List ℕ → List ℕ → Room → ℕ → ℕ → Outcome
tolerance_checks b upper have least greatest =
    let k = settings_of b in
    refuse 8 (eqb k.kind 2) ▷ refuse 13 (bad_upper b upper)
    ▷ refuse 11 (short k 1 have least (pixels k) || ltb greatest (pixels k))

unfoldable pub tolerance_outcome : List ℕ → List ℕ → Room → ℕ → ℕ → Outcome
tolerance_outcome b upper have least greatest = verdict b ▷ tolerance_checks b upper have least greatest
