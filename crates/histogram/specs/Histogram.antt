-- The window's histogram of levels with guide sums, and what a pixel changes in it.
-- Assumes nothing.
use Rattle.std.specs.Prelude.{◌≡◌, Bool, List, ℕ, ◌+◌, ◌-◌, ◌*◌, ◌≤◌, ◌<◌, eqb, ltb, length, get_or, if◌then◌else◌}
use Rattle.spec.specs.declared.Plan.{Plan}
use Rattle.spec.specs.Frame.{Frame, level, guide}
use Rattle.spec.specs.Window.{Σ}
use Rattle.pixels.specs.Pixels.{columns_fold}
use Rattle.pixels.specs.Additive.{changed}

-- what a pixel of level i and guide f adds at place k, of l levels
unfoldable pub share : ℕ → ℕ → ℕ → ℕ → ℕ
share l k i f = if ltb k l then (if eqb i k then 1 else 0) else (if eqb i (k - l) then f else 0)

-- a pixel of level i and guide f has entered or left
pub record Changed (w : Bool) (l i f : ℕ) (xs ys : List ℕ) : Type 0 where
  pub long : length ys ≡ length xs
  pub cells : (k : ℕ) → get_or ys k 0 ≡ changed w (get_or xs k 0) (share l k i f)

-- no pixel
pub record Blank (l : ℕ) (xs : List ℕ) : Type 0 where
  pub long : l + l ≤ length xs
  pub zeros : (k : ℕ) → k < l + l → get_or xs k 0 ≡ 0

-- the first n columns from column x of the windows of row t
pub record HistogramFilled (b vs : List ℕ) (plan : Plan) (x t n : ℕ) (xs : List ℕ) : Type 0 where
  pub long : plan.levels + plan.levels ≤ length xs
  pub low : (k : ℕ) → k < plan.levels + plan.levels → get_or xs k 0 ≤ 7936 * n
  pub cells : (k : ℕ) → k < plan.levels + plan.levels → get_or xs k 0 ≡ columns_fold ◌+◌ 0 b vs plan x t (share plan.levels k) n

-- the window at (s, t)
pub record Histogram (p : Frame) (s t : ℕ) (xs : List ℕ) : Type 0 where
  pub long : p.set.levels + p.set.levels ≤ length xs
  pub cells : (k : ℕ) → k < p.set.levels + p.set.levels → get_or xs k 0 ≡ Σ p s t (λ x y. share p.set.levels k (level p x y) (guide p x y))
