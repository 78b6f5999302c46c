-- Weights by a row of numbers and two coefficients: slope times the guide's number, and offset.
-- Assumes nothing.
use Rattle.std.specs.Prelude.{◌≡◌, List, ℕ, ◌≤◌, ◌<◌, length, get_or, ℤ, pos, nat_abs, ◌+ℤ◌, ◌*ℤ◌}
use Rattle.spec.specs.Frame.{Frame}
use Rattle.spec.specs.Weight.{own_weight, weight}
use Rattle.balance.specs.declared.formula.Formula.{Formula}

-- the coefficients are small enough for every sum of a window
pub record FormulaInBounds (formula : Formula) : Type 0 where
  pub slope : nat_abs formula.slope ≤ 235497855
  pub offset : nat_abs formula.offset ≤ 180155859075

-- what guide f weighs
abbrev pub weight_by : List ℕ → Formula → ℕ → ℤ
weight_by row formula f = formula.slope *ℤ pos (get_or row f 0) +ℤ formula.offset

-- each of m guides has its number in the row, and no weight is too large for a window's sums
pub record FormulaFits (m : ℕ) (row : List ℕ) (formula : Formula) : Type 0 where
  pub inside : m ≤ length row
  pub small : FormulaInBounds formula
  pub low : (f : ℕ) → f < m → nat_abs (weight_by row formula f) ≤ 180155859075

-- they give what m guides weigh
pub record Gives (weigh : ℕ → ℤ) (m : ℕ) (row : List ℕ) (formula : Formula) : Type 0 where
  pub fits : FormulaFits m row formula
  pub is : (f : ℕ) → f < m → weigh f ≡ weight_by row formula f

-- in the window at (s, t), by the frame's own weights; and by those that it is counted with
abbrev pub WeighsOwn : Frame → ℕ → ℕ → List ℕ → Formula → Type 0
WeighsOwn p s t row formula = Gives (own_weight p s t) p.set.guides row formula

abbrev pub Weighs : Frame → ℕ → ℕ → List ℕ → Formula → Type 0
Weighs p s t row formula = Gives (weight p s t) p.set.guides row formula

-- the numbers 0 1 2 ..
pub record Ramp (m : ℕ) (row : List ℕ) : Type 0 where
  pub long : m ≤ length row
  pub is : (f : ℕ) → f < m → get_or row f 0 ≡ f
