-- A window's tally is small, and 0 where there is no reading.
-- Assumes nothing.
use mathlib.Core.Path.{◌≡◌, sym}
use mathlib.Core.Bool.{true}
use Prim.Native.Nat.{ℕ, ◌+◌, ◌≤◌}
use native.Mathlib.Nat.{le_refl, le_trans}
use lib.Dec.{ltb}
use Rattle.std.specs.Prelude.{if◌then◌else◌}
use Rattle.spec.specs.Frame.{Frame, level, guide}
use Rattle.spec.specs.Window.{guide_sum, pixel_count, empty}
use Rattle.spec.proofs.Limits.{Pixel}
use Rattle.spec.proofs.Ranges.{nat_sums}
use Rattle.spec.proofs.Sums.{over-le, over-empty}
use Rattle.spec.proofs.Own.{empty-count}
use Rattle.spec.proofs.Bounds.{pixel_count-high, guide_sum-high, if-high}
use Rattle.levels.specs.Tally.{below_sum, BelowAt}

-- ---- a window's tally
module _ {p : Frame} {s t : ℕ} (k : Pixel p s t) (n : ℕ) where
  pub below-count-high : below_sum p s t (λ x y. 1) n ≤ 961
  unfolding below_sum pixel_count
  below-count-high = le_trans (over-le p s t _ (λ x y. 1) (λ x y h. if-high (ltb (level p x y) n) 1 1 (le_refl 1))) (pixel_count-high k)

  pub below-guide-high : below_sum p s t (guide p) n ≤ 245055
  unfolding below_sum guide_sum
  below-guide-high =
      le_trans (over-le p s t _ (guide p) (λ x y h. if-high (ltb (level p x y) n) (guide p x y) (guide p x y) (le_refl (guide p x y))))
      (guide_sum-high k)

pub below-empty : (p : Frame) (s t n : ℕ) → empty p s t ≡ true → BelowAt p s t n (record { count = 0; sum = 0 })
unfolding below_sum
below-empty p s t n e = record {
  count = sym (over-empty p s t ◌+◌ 0 nat_sums (λ x y. if ltb (level p x y) n then 1 else 0) (empty-count p s t e));
  sum = sym (over-empty p s t ◌+◌ 0 nat_sums (λ x y. if ltb (level p x y) n then guide p x y else 0) (empty-count p s t e));
}
