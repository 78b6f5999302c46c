-- `ints::signed_test` meets its contract: the flag of the code's test says the order of the integers, by `le-true` and `le-false`. Assumes nothing.
use Rattle.std.specs.Prelude.{List, [], ◌∷◌}
use lib.Signed.{clash_ℤ}
use mir.Syntax.{w64}
use Rattle.ints.specs.Polynomial.{◌⊕◌, ◌⊖◌, ◌⊗◌, #◌, x₀ as u, x₁ as t, x₂ as w}
use Rattle.ints.specs.Bound.{abs-le-nonneg}
use Rattle.ints.specs.Machine.{Cell, param_cell, le-true, le-false}
use Rattle.ints.proofs.Machine.{need, computes}
use Rattle.ints.proofs.signed_test.Goals as goal

abbrev env : goal.Start → List Cell
env c =
    param_cell w64 c.args.u 1000000 c.requires.0 tt
    ∷ param_cell w64 c.args.t 1000000 c.requires.1 tt
    ∷ param_cell w64 c.args.w 1000 (abs-le-nonneg c.requires.2 c.requires.3) tt
    ∷ []

pub overflow_mul-u : goal.overflow_mul-u
overflow_mul-u c = need w64 (env c) (# 2 ⊗ u) tt

pub overflow_sub-result : goal.overflow_sub-result
overflow_sub-result c = need w64 (env c.before) (u ⊖ w) tt

pub overflow_add-result : goal.overflow_add-result
overflow_add-result c = need w64 (env c.before) (u ⊕ w) tt

pub returns-then-t-u : goal.returns-then-t-u
returns-then-t-u c = (
  λ h. computes w64 (env c.before) (u ⊖ w) tt,
  λ h. clash_ℤ h (le-true (computes w64 (env c.before) t tt) (computes w64 (env c.before) (# 2 ⊗ u) tt) c.if-t-u.true),
)

pub returns-else-t-u : goal.returns-else-t-u
returns-else-t-u c = (
  λ h. clash_ℤ (le-false (computes w64 (env c.before) t tt) (computes w64 (env c.before) (# 2 ⊗ u) tt) c.if-t-u.false) h,
  λ h. computes w64 (env c.before) (u ⊕ w) tt,
)
