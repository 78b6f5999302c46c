-- `window_weights::coefficients::reached` meets its contract: both sides of the test fit 64 bits. Assumes nothing.
use Rattle.std.proofs.Common.{ℕ, ◌≤◌, List, [], ◌∷◌, w64, ap₂}
use Rattle.std.specs.Int.Signed.{le_z}
use Rattle.ints.specs.Machine.{Cell, param_cell, unsigned_cell}
use Rattle.ints.specs.Polynomial.{◌⊕◌, ◌⊗◌, #◌, x₀, x₁, x₂, x₃, x₄}
use Rattle.ints.specs.Auto.{signed_code}
use Rattle.ints.proofs.Auto.{need! }
use Rattle.ints.proofs.Machine.{computes}
use Rattle.window_weights.specs.declared.coefficients.Coefficients.{Coefficients}
use Rattle.window_weights.specs.Coefficients.{CoefficientsSmall, reaches_half}
use Rattle.window_weights.proofs.coefficients.reached.Goals as goal

abbrev cells : (k : Coefficients) (count sum : ℕ) → CoefficientsSmall k → (count ≤ 961) × (sum ≤ 245055) → List Cell
cells k count sum small most =
    param_cell w64 k.slope 235497855 small.slope tt
    ∷ param_cell w64 k.offset 180155859075 small.offset tt
    ∷ param_cell w64 k.total 173129780571075 small.total tt
    ∷ unsigned_cell w64 count 961 most.0 tt
    ∷ unsigned_cell w64 sum 245055 most.1 tt
    ∷ []

pub overflow_add-result : goal.overflow_add-result
overflow_add-result c = need! w64 (cells c.args.coefficients _ _ c.requires.coefficients_small c.requires.count_bound) (search signed_code depth 12) tt

pub overflow_mul-result-3 : goal.overflow_mul-result-3
overflow_mul-result-3 c = need! w64 (cells c.args.coefficients _ _ c.requires.coefficients_small c.requires.count_bound) (search signed_code depth 12) tt

pub returns : goal.returns
unfolding reaches_half
returns c =
    let known : List Cell = cells c.args.coefficients _ _ c.requires.coefficients_small c.requires.count_bound in
    ap₂ le_z (computes w64 known x₂ tt) (computes w64 known (# 2 ⊗ (x₀ ⊗ x₄ ⊕ x₁ ⊗ x₃)) tt)
