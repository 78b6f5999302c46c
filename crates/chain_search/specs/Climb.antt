-- The first level at which the running weight reaches half of the window's.
-- Assumes nothing.
use Rattle.std.specs.Prelude.{Bool, List, ℕ, suc, ◌≤◌, ◌<◌}
use Rattle.spec.specs.Base.{first}
use Rattle.window_weights.specs.declared.coefficients.Coefficients.{Coefficients}
use Rattle.window_weights.specs.Coefficients.{reaches_half}
use Rattle.chain_list.specs.Chain.{Chain, sum_below}

-- whether the levels up to i weigh at least half
abbrev pub reaches_at : (ℕ → ℕ) → (ℕ → ℕ) → Coefficients → ℕ → Bool
reaches_at cnt sm coefficients i = reaches_half coefficients (sum_below cnt (suc i)) (sum_below sm (suc i))

-- a store with a list of few pixels, cnt and sm being its counts and guide sums, and some level that reaches it
pub record Climbs (levels : ℕ) (coefficients : Coefficients) (m : List ℕ) : Type 0 where
  pub cap : ℕ
  pub cnt : ℕ → ℕ
  pub sm : ℕ → ℕ
  pub head : ℕ
  pub free : ℕ
  pub chain : Chain cap levels cnt sm head free m
  pub few : sum_below cnt levels ≤ 961
  pub light : sum_below sm levels ≤ 245055
  pub some : first (reaches_at cnt sm coefficients) levels < levels
