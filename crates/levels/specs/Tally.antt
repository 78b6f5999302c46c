-- The count and the guide sum of the window's pixels below a level: cumulative numbers that the search keeps at the cut point and every move carries.
-- Assumes nothing.
use Rattle.std.specs.Prelude.{◌≡◌, ℕ, ltb, if◌then◌else◌}
use Rattle.spec.specs.Frame.{Frame, level, guide}
use Rattle.spec.specs.Window.{Σ}
use Rattle.level_search.specs.declared.Tally.{Tally}

-- the sum of f over the window's pixels of a level below n
unfoldable pub below_sum : Frame → ℕ → ℕ → (ℕ → ℕ → ℕ) → ℕ → ℕ
below_sum p s t f n = Σ p s t (λ x y. if ltb (level p x y) n then f x y else 0)

pub record BelowAt (p : Frame) (s t n : ℕ) (a : Tally) : Type 0 where
  pub count : a.count ≡ below_sum p s t (λ x y. 1) n
  pub sum : a.sum ≡ below_sum p s t (guide p) n

-- what a pixel of level i and guide f adds to each
abbrev pub one_below : ℕ → ℕ → ℕ → ℕ
one_below n i f = if ltb i n then 1 else 0

abbrev pub guide_below : ℕ → ℕ → ℕ → ℕ
guide_below n i f = if ltb i n then f else 0
