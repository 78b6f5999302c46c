-- What signed code has is what was computed, and each of its operations fits: `computes` and `need`. Assumes nothing.
use Rattle.std.specs.Prelude.{◌≡◌, refl, List, ◌+◌, ◌*◌, ◌^◌, T, ℤ, neg_ℤ, ◌+ℤ◌, ◌-ℤ◌, ◌*ℤ◌}
use Rattle.std.proofs.Common.{sym, ◌∙◌, ap, ap₂, subst}
use Rattle.std.proofs.Math.IntN.{+ℤ_idl}
use Rattle.std.specs.Int.{Width}
use mir.Val.{SFits, hbits}
use Rattle.ints.specs.Polynomial.{Expr, var, lit, ◌⊕◌, ◌⊖◌, ◌⊗◌, opposite, eval}
use Rattle.ints.specs.Bound.{bound_of, sfits-below}
use Rattle.ints.specs.Computation.{Exact, values, bounds, computed, all_below, operands}
use Rattle.ints.specs.Machine.{Cell, read_back, read, signed_ops, before_store}
use Rattle.ints.proofs.Computation.{bounded, eval-below, computed-means}

signed-exact : (w : Width) → Exact (λ (x z : ℤ). x ≡ z) (signed_ops w) (2 ^ hbits w)
signed-exact w =
    record {
      literal-means = λ c. refl;
      plus-means = λ x y a b p q h k l. ap₂ (λ (i j : ℤ). read_back w (i +ℤ j)) p q ∙ read w (sfits-below l);
      minus-means = λ x y a b p q h k l. ap₂ (λ (i j : ℤ). read_back w (i -ℤ j)) p q ∙ read w (sfits-below l);
      times-means = λ x y a b p q h k l. ap₂ (λ (i j : ℤ). read_back w (i *ℤ j)) p q ∙ read w (sfits-below l);
      negate-means = λ x a p l. ap (read_back w) (+ℤ_idl (neg_ℤ x) ∙ ap neg_ℤ p) ∙ read w (sfits-below l);
    }

module _ (w : Width) (xs : List Cell) where
  -- what the code has of e is e's value
  pub computes : (e : Expr) → T (all_below (2 ^ hbits w) (bounds xs) e) → computed (signed_ops w) xs e ≡ eval (values xs) e
  computes e t = computed-means (signed-exact w) xs e t

  before-is : (e : Expr) → T (all_below (2 ^ hbits w) (bounds xs) e) → before_store w xs e ≡ eval (values xs) e
  before-is (var i) t = computes (var i) t
  before-is (lit c) t = refl
  before-is (a ⊕ b) t =
      let s = operands (2 ^ hbits w) (bounds xs) a b (bound_of (bounds xs) a + bound_of (bounds xs) b) t in
      ap₂ (λ (x y : ℤ). x +ℤ y) (computes a s.0) (computes b s.1.0)
  before-is (a ⊖ b) t =
      let s = operands (2 ^ hbits w) (bounds xs) a b (bound_of (bounds xs) a + bound_of (bounds xs) b) t in
      ap₂ (λ (x y : ℤ). x -ℤ y) (computes a s.0) (computes b s.1.0)
  before-is (a ⊗ b) t =
      let s = operands (2 ^ hbits w) (bounds xs) a b (bound_of (bounds xs) a * bound_of (bounds xs) b) t in
      ap₂ (λ (x y : ℤ). x *ℤ y) (computes a s.0) (computes b s.1.0)
  before-is (opposite a) t = +ℤ_idl (neg_ℤ (computed (signed_ops w) xs a)) ∙ ap neg_ℤ (computes a t)

  -- a goal `overflow_add-..`, `overflow_sub-..`, `overflow_mul-..`
  pub need : (e : Expr) → T (all_below (2 ^ hbits w) (bounds xs) e) → SFits w (before_store w xs e)
  need e t = subst (λ (x : ℤ). SFits w x) (sym (before-is e t)) (sfits-below (eval-below (signed-exact w) xs e t))

  -- `let_cell w64 xs e tt ∷ xs`
  abbrev pub let_cell : (e : Expr) → T (all_below (2 ^ hbits w) (bounds xs) e) → Cell
  let_cell e t =
      record { has = computed (signed_ops w) xs e; is = eval (values xs) e; bound = bound_of (bounds xs) e; same = computes e t; small = bounded xs e }
