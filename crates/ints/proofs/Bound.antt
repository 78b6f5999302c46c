-- The bound of an expression holds: `eval-within ρ B e h`. Assumes nothing.
use Rattle.std.specs.Prelude.{List, [], ◌∷◌, ℕ, zero, suc, ◌≤◌, ℤ, nat_abs}
use Rattle.std.proofs.Common.{le_refl, arith}
use Rattle.ints.specs.Polynomial.{Expr, var, lit, ◌⊕◌, ◌⊖◌, ◌⊗◌, opposite, at, eval}
use Rattle.ints.specs.Bound.{abs-add-le, abs-sub-le, abs-mul-le, abs-neg-le, bound_at, bound_of, WithinBounds}

at-within : (ρ : List ℤ) (B : List ℕ) (i : ℕ) → WithinBounds ρ B → nat_abs (at ρ i) ≤ bound_at B i
at-within [] B i h = omega arith
at-within (z ∷ ρ) [] i h = absurd h
at-within (z ∷ ρ) (b ∷ B) zero h = h.0
at-within (z ∷ ρ) (b ∷ B) (suc i) h = at-within ρ B i h.1

pub eval-within : (ρ : List ℤ) (B : List ℕ) (e : Expr) → WithinBounds ρ B → nat_abs (eval ρ e) ≤ bound_of B e
eval-within ρ B (var i) h = at-within ρ B i h
eval-within ρ B (lit c) h = le_refl (nat_abs c)
eval-within ρ B (a ⊕ b) h = abs-add-le (eval ρ a) (eval ρ b) (eval-within ρ B a h) (eval-within ρ B b h)
eval-within ρ B (a ⊖ b) h = abs-sub-le (eval ρ a) (eval ρ b) (eval-within ρ B a h) (eval-within ρ B b h)
eval-within ρ B (a ⊗ b) h = abs-mul-le (eval ρ a) (eval ρ b) (eval-within ρ B a h) (eval-within ρ B b h)
eval-within ρ B (opposite a) h = abs-neg-le (eval ρ a) (eval-within ρ B a h)
