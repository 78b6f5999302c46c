-- Numbers X i of l levels, as the levels' weights: what they add up to at a level, and where they reach half.
-- Assumes nothing.
use Rattle.std.specs.Prelude.{Bool, ℕ, suc, ℤ, pos, ◌-ℤ◌, ◌*ℤ◌}
use Rattle.std.specs.Int.Signed.{le_z}
use Rattle.spec.specs.Base.{first, sumℤ}
use Rattle.spec.specs.Weight.{is_zero}

-- those up to level i; and all of them
unfoldable pub cumulative_of : (ℕ → ℤ) → ℕ → ℤ
cumulative_of X i = sumℤ X 0 (suc i)

unfoldable pub total_of : (ℕ → ℤ) → ℕ → ℤ
total_of X l = sumℤ X 0 l

-- those up to level c, less those above it
unfoldable pub balance_of : (ℕ → ℤ) → ℕ → ℕ → ℤ
balance_of X l c = pos 2 *ℤ cumulative_of X c -ℤ total_of X l

unfoldable pub weightless_of : (ℕ → ℤ) → ℕ → Bool
weightless_of X l = is_zero (total_of X l)

-- the smallest level up to which they add up to at least half
unfoldable pub median_of : (ℕ → ℤ) → ℕ → ℕ
median_of X l = first (λ i. le_z (total_of X l) (pos 2 *ℤ cumulative_of X i)) l
