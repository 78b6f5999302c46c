-- Kind 2: a pixel of guide g weighs slope · g + offset, and the window's weights sum to total.
-- Assumes nothing.
use Rattle.std.specs.Prelude.{◌≡◌, Bool, ◌&&◌, ℕ, ◌-◌, ◌≤◌, ℤ, pos, nat_abs, ◌+ℤ◌, ◌-ℤ◌, ◌*ℤ◌}
use Rattle.std.specs.Int.Signed.{non_neg, le_z}
use Rattle.spec.specs.Frame.{Frame}
use Rattle.spec.specs.Median.{total_weight}
use Rattle.spec.specs.Weight.{slope, offset}
use Rattle.window.specs.declared.sums.Sums.{Sums}
use Rattle.window_weights.specs.declared.coefficients.Coefficients.{Coefficients}

pub record WeighsAt (p : Frame) (s t : ℕ) (coefficients : Coefficients) : Type 0 where
  pub slope : coefficients.slope ≡ slope p s t
  pub offset : coefficients.offset ≡ offset p s t
  pub total : coefficients.total ≡ total_weight p s t

-- ---- from the sums a, the smoothing E and the centre's guide g; document 01: V, c = n(n·g − S), d = V − S(n·g − S), T = nV
abbrev pub scaled_variance_of : Sums → ℕ → ℤ
scaled_variance_of a E = pos a.count *ℤ pos a.squares -ℤ pos a.sum *ℤ pos a.sum +ℤ pos a.count *ℤ pos a.count *ℤ pos E

abbrev pub deviation_of : Sums → ℕ → ℤ
deviation_of a g = pos a.count *ℤ pos g -ℤ pos a.sum

pub record CoefficientsOf (a : Sums) (E g : ℕ) (coefficients : Coefficients) : Type 0 where
  pub slope : coefficients.slope ≡ pos a.count *ℤ deviation_of a g
  pub offset : coefficients.offset ≡ scaled_variance_of a E -ℤ pos a.sum *ℤ deviation_of a g
  pub total : coefficients.total ≡ pos a.count *ℤ scaled_variance_of a E

-- what keeps them in 64 bits
pub record SumsSmall (a : Sums) : Type 0 where
  pub count : a.count ≤ 961
  pub sum : a.sum ≤ 245055
  pub squares : a.squares ≤ 62489025

pub record CoefficientsSmall (coefficients : Coefficients) : Type 0 where
  pub slope : nat_abs coefficients.slope ≤ 235497855
  pub offset : nat_abs coefficients.offset ≤ 180155859075
  pub total : nat_abs coefficients.total ≤ 173129780571075

-- whether neither end of the formula is negative, over so many guides
unfoldable pub ends_not_negative : Coefficients → ℕ → Bool
ends_not_negative coefficients guides = non_neg coefficients.offset && non_neg (coefficients.slope *ℤ pos (guides - 1) +ℤ coefficients.offset)

-- what so many pixels with that guide sum weigh, and whether that is at least half of the window's weight sum
abbrev pub weight_of : Coefficients → ℕ → ℕ → ℤ
weight_of coefficients count sum = coefficients.slope *ℤ pos sum +ℤ coefficients.offset *ℤ pos count

unfoldable pub reaches_half : Coefficients → ℕ → ℕ → Bool
reaches_half coefficients count sum = le_z coefficients.total (pos 2 *ℤ weight_of coefficients count sum)
