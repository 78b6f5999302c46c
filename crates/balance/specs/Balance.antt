-- What a pixel adds to the balance, by a row of weights: its weight, taken off where its level is above the given one.
-- Assumes nothing.
use Rattle.std.specs.Prelude.{List, ℕ, ◌≤◌, ◌<◌, length, ℤ, nat_abs, ◌*ℤ◌}
use Rattle.spec.specs.declared.Plan.{Plan}
use Rattle.spec.specs.Frame.{Frame, level, guide, frame_of}
use Rattle.spec.specs.Checks.{Planned}
use Rattle.spec.specs.Window.{Σℤ}
use Rattle.pixels.specs.declared.Pixel.{Pixel}
use Rattle.pixels.specs.Pixels.{count_of, guide_in}
use Rattle.joint_pixel.specs.Side.{side}
use Rattle.balance.specs.declared.formula.Formula.{Formula}
use Rattle.balance.specs.Formula.{FormulaInBounds, FormulaFits, weight_by}

unfoldable pub signed_by : List ℕ → Formula → ℕ → ℕ → ℕ → ℤ
signed_by ns formula c i g = side c i *ℤ weight_by ns formula g

-- all pixels of the window at (s, t)
unfoldable pub balance_by : Frame → ℕ → ℕ → List ℕ → Formula → ℕ → ℤ
balance_by p s t ns formula c = Σℤ p s t (λ x y. signed_by ns formula c (level p x y) (guide p x y))

-- few pixels, each of whose guides has its weight in the row, and a small one
pub record PixelsWeighed (p : List Pixel) (ns : List ℕ) (formula : Formula) : Type 0 where
  pub few : count_of p ≤ 31
  pub small : FormulaInBounds formula
  pub inside : (k : ℕ) → k < count_of p → guide_in p k < length ns
  pub low : (k : ℕ) → k < count_of p → nat_abs (weight_by ns formula (guide_in p k)) ≤ 180155859075

-- a window of an accepted file, and a row in which each of its pixels has a weight
pub record Weighed (b : List ℕ) (plan : Plan) (s t : ℕ) (ns : List ℕ) (formula : Formula) : Type 0 where
  pub planned : Planned b plan
  pub column : s < plan.width
  pub row : t < plan.height
  pub fits : FormulaFits (frame_of b).set.guides ns formula
