-- `window_weights::coefficients::monotone` meets its contract: both ends of the formula fit 64 bits. Assumes nothing.
use Rattle.std.proofs.Common.{◌≡◌, refl, sym, ap, ◌∙◌, ℕ, ◌-◌, ◌≤◌, ℤ, pos, negsuc, List, [], ◌∷◌, w64, arith}
use Rattle.std.proofs.lemmas.Bool.Decides.{nat_tests}
use Rattle.std.specs.Int.Signed.{le_z, non_neg}
use Rattle.ints.specs.Machine.{Cell, param_cell, unsigned_cell}
use Rattle.ints.specs.Polynomial.{◌⊕◌, ◌⊗◌, x₀, x₁, x₂}
use Rattle.ints.specs.Auto.{signed_code}
use Rattle.ints.proofs.Auto.{need! }
use Rattle.ints.proofs.Machine.{computes}
use Rattle.window_weights.specs.declared.coefficients.Coefficients.{Coefficients}
use Rattle.window_weights.specs.Coefficients.{CoefficientsSmall, ends_not_negative}
use Rattle.window_weights.proofs.coefficients.monotone.Goals as goal

abbrev cells : (k : Coefficients) (last : ℕ) → CoefficientsSmall k → last ≤ 255 → List Cell
cells k last small most =
    param_cell w64 k.slope 235497855 small.slope tt
    ∷ param_cell w64 k.offset 180155859075 small.offset tt
    ∷ unsigned_cell w64 last 255 most tt
    ∷ []

pub overflow_add-high : goal.overflow_add-high
overflow_add-high c =
    need! w64 (cells c.args.coefficients (c.args.plan.guides - 1) c.requires.coefficients_small (omega arith)) (search signed_code depth 12) tt

-- the code's test
tested : (z : ℤ) → le_z (pos 0) z ≡ non_neg z
tested (pos n) = grind (arith, nat_tests)
tested (negsuc n) = refl

pub returns-then-low-ge0 : goal.returns-then-low-ge0
unfolding ends_not_negative
returns-then-low-ge0 c =
    let most : c.args.plan.guides - 1 ≤ 255 = omega arith in
    let known : List Cell = cells c.args.coefficients _ c.requires.coefficients_small most in
    let low = ap (le_z (pos 0)) (computes w64 known x₁ tt) ∙ tested c.args.coefficients.offset in
    rw (sym low ∙ c.if-low-ge0.true) (ap (le_z (pos 0)) (computes w64 known (x₀ ⊗ x₂ ⊕ x₁) tt) ∙ tested _)

pub returns-else-low-ge0 : goal.returns-else-low-ge0
unfolding ends_not_negative
returns-else-low-ge0 c =
    let most : c.args.plan.guides - 1 ≤ 255 = omega arith in
    let known : List Cell = cells c.args.coefficients _ c.requires.coefficients_small most in
    let low = ap (le_z (pos 0)) (computes w64 known x₁ tt) ∙ tested c.args.coefficients.offset in
    rw (sym low ∙ c.if-low-ge0.false) c.if-low-ge0.false
