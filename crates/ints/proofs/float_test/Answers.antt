-- `ints::float_test` meets its contract: the code's test is that of the integers, by `lt-computed`. Assumes nothing.
use Rattle.std.specs.Prelude.{refl, List, [], ◌∷◌, ◌≤◌, ℤ, pos, nat_abs}
use Rattle.std.proofs.Common.{sym, ◌∙◌, le_refl}
use lib.Signed.{clash_ℤ}
use lib.Ieee.{binary64, of_bits}
use mir.Syntax.{w64}
use Rattle.ints.specs.Polynomial.{◌⊗◌, x₀ as two, x₁ as u, x₂ as t}
use Rattle.ints.specs.Machine.{lt-true, lt-false}
use Rattle.ints.specs.Float.{FloatCell, signed_float, known_float, float-need, rep-two}
use Rattle.ints.proofs.Float.{lt-computed}
use Rattle.ints.proofs.float_test.Goals as goal

abbrev env : (u t : ℤ) → (nat_abs u ≤ 1000000000000) × (nat_abs t ≤ 1000000000000) → List (FloatCell binary64)
env u t small =
    known_float (of_bits binary64 4611686018427387904) (pos 2) 2 rep-two (le_refl 2)
    ∷ signed_float binary64 w64 u 1000000000000 small.0 tt
    ∷ signed_float binary64 w64 t 1000000000000 small.1 tt
    ∷ []

pub int_to_float-a : goal.int_to_float-a
int_to_float-a c = float-need binary64 w64 c.args.u 1000000000000 c.requires.0 tt

pub int_to_float-b : goal.int_to_float-b
int_to_float-b c = float-need binary64 w64 c.args.t 1000000000000 c.requires.1 tt

pub returns-then-b-a : goal.returns-then-b-a
returns-then-b-a c = (
  λ h. refl,
  λ h. clash_ℤ (lt-true refl refl (sym (lt-computed binary64 (env c.args.u c.args.t c.requires) t (two ⊗ u) tt) ∙ c.if-b-a.true)) h,
)

pub returns-else-b-a : goal.returns-else-b-a
returns-else-b-a c = (
  λ h. clash_ℤ h (lt-false refl refl (sym (lt-computed binary64 (env c.args.u c.args.t c.requires) t (two ⊗ u) tt) ∙ c.if-b-a.false)),
  λ h. refl,
)
