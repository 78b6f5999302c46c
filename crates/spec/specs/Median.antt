-- The window's weight sum, its cumulative weights, its balance, its answer, and what the answer minimises.
-- Assumes nothing.
use Rattle.std.specs.Prelude.{ℕ, ◌<◌, ◌≡◌, ◌⊎◌, leb, ℤ, pos, ◌-ℤ◌, ◌*ℤ◌, ◌≤ℤ◌, if◌then◌else◌}
use Rattle.std.specs.Int.Signed.{le_z}
use Rattle.spec.specs.declared.Settings.{Settings}
use Rattle.spec.specs.Base.{distance, first}
use Rattle.spec.specs.Frame.{Frame, level, guide, no_reading}
use Rattle.spec.specs.Window.{Σℤ, InWindow, empty}
use Rattle.spec.specs.Weight.{own_weight, weight}

-- document 01: T
unfoldable pub total_weight : Frame → ℕ → ℕ → ℤ
total_weight p s t = Σℤ p s t (λ x y. weight p s t (guide p x y))

-- document 01: U(i)
unfoldable pub cumulative : Frame → ℕ → ℕ → ℕ → ℤ
cumulative p s t i = Σℤ p s t (λ x y. if leb (level p x y) i then weight p s t (guide p x y) else pos 0)

unfoldable pub balance : Frame → ℕ → ℕ → ℕ → ℤ
balance p s t i = pos 2 *ℤ cumulative p s t i -ℤ total_weight p s t

-- the smallest level with 2U(i) ≥ T
unfoldable pub median : Frame → ℕ → ℕ → ℕ
median p s t = first (λ i. le_z (total_weight p s t) (pos 2 *ℤ cumulative p s t i)) p.set.levels

-- what is answered for the window: its median, for a hollow one too (document 02, in place of document 01's own level of the centre); or no reading
unfoldable pub answer : Frame → ℕ → ℕ → ℕ
answer p s t = if empty p s t then no_reading else median p s t

-- what an answer is: a level, or no reading (`answer-low` of proofs/Totals)
abbrev pub LevelOrNone : ℕ → Type 0
LevelOrNone m = (m < 1024) ⊎ (m ≡ no_reading)

-- the weighted sum of absolute differences of level i, by the frame's own weights
unfoldable pub differences : Frame → ℕ → ℕ → ℕ → ℤ
differences p s t i = Σℤ p s t (λ x y. own_weight p s t (guide p x y) *ℤ pos (distance (level p x y) i))

-- demand 3's condition on the window at (s, t), on the frame's own weights: none of its pixels has a negative one, and not all have 0
abbrev pub NoneNegative : Frame → ℕ → ℕ → Type 0
NoneNegative p s t = (x y : ℕ) → InWindow p s t x y → pos 0 ≤ℤ own_weight p s t (guide p x y)

abbrev pub NotAllZero : Frame → ℕ → ℕ → Type 0
NotAllZero p s t = ((x y : ℕ) → InWindow p s t x y → own_weight p s t (guide p x y) ≡ pos 0) → ⊥
