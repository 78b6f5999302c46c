-- What the code has of an expression stands for its value: `computed-means`, by one test of literals. Assumes nothing.
use Rattle.std.specs.Prelude.{List, [], ◌∷◌, ℕ, zero, suc, ◌+◌, ◌*◌, ◌≤◌, ◌<◌, T, ℤ, pos, nat_abs}
use Rattle.std.proofs.Common.{lt_of_le_of_lt, ltb→lt}
use Rattle.ints.specs.Polynomial.{Expr, var, lit, ◌⊕◌, ◌⊖◌, ◌⊗◌, opposite, at, eval}
use Rattle.ints.specs.Bound.{bound_at, bound_of, WithinBounds}
use Rattle.ints.specs.Computation.{Variable, Operations, Exact, values, bounds, held_at, computed, all_below, operands}
use Rattle.ints.proofs.Bound.{eval-within}

module _ {A : Type 0} {Means : A → ℤ → Type 0} where
  all-within : (xs : List (Variable A Means)) → WithinBounds (values xs) (bounds xs)
  all-within [] = tt
  all-within (x ∷ xs) = (x.small, all-within xs)

  pub bounded : (xs : List (Variable A Means)) (e : Expr) → nat_abs (eval (values xs) e) ≤ bound_of (bounds xs) e
  bounded xs e = eval-within (values xs) (bounds xs) e (all-within xs)

whole_below : (M : ℕ) (B : List ℕ) (e : Expr) → T (all_below M B e) → bound_of B e < M
whole_below M B (var i) t = ltb→lt (bound_at B i) M t
whole_below M B (lit c) t = ltb→lt (nat_abs c) M t
whole_below M B (a ⊕ b) t = ltb→lt (bound_of B a + bound_of B b) M (operands M B a b (bound_of B a + bound_of B b) t).1.1
whole_below M B (a ⊖ b) t = ltb→lt (bound_of B a + bound_of B b) M (operands M B a b (bound_of B a + bound_of B b) t).1.1
whole_below M B (a ⊗ b) t = ltb→lt (bound_of B a * bound_of B b) M (operands M B a b (bound_of B a * bound_of B b) t).1.1
whole_below M B (opposite a) t = whole_below M B a t

module _ {A : Type 0} {Means : A → ℤ → Type 0} {O : Operations A} {M : ℕ} (E : Exact Means O M) (xs : List (Variable A Means)) where
  held-means : (ys : List (Variable A Means)) (i : ℕ) → Means (held_at O ys i) (at (values ys) i)
  held-means [] i = E.literal-means (pos 0)
  held-means (y ∷ ys) zero = y.same
  held-means (y ∷ ys) (suc i) = held-means ys i

  pub eval-below : (e : Expr) → T (all_below M (bounds xs) e) → nat_abs (eval (values xs) e) < M
  eval-below e t = lt_of_le_of_lt (bounded xs e) (whole_below M (bounds xs) e t)

  pub computed-means : (e : Expr) → T (all_below M (bounds xs) e) → Means (computed O xs e) (eval (values xs) e)
  computed-means (var i) t = held-means xs i
  computed-means (lit c) t = E.literal-means c
  computed-means (a ⊕ b) t =
      let s = operands M (bounds xs) a b (bound_of (bounds xs) a + bound_of (bounds xs) b) t in
      E.plus-means (computed O xs a) (computed O xs b) (eval (values xs) a) (eval (values xs) b) (computed-means a s.0)
      (computed-means b s.1.0) (eval-below a s.0) (eval-below b s.1.0) (eval-below (a ⊕ b) t)
  computed-means (a ⊖ b) t =
      let s = operands M (bounds xs) a b (bound_of (bounds xs) a + bound_of (bounds xs) b) t in
      E.minus-means (computed O xs a) (computed O xs b) (eval (values xs) a) (eval (values xs) b) (computed-means a s.0)
      (computed-means b s.1.0) (eval-below a s.0) (eval-below b s.1.0) (eval-below (a ⊖ b) t)
  computed-means (a ⊗ b) t =
      let s = operands M (bounds xs) a b (bound_of (bounds xs) a * bound_of (bounds xs) b) t in
      E.times-means (computed O xs a) (computed O xs b) (eval (values xs) a) (eval (values xs) b) (computed-means a s.0)
      (computed-means b s.1.0) (eval-below a s.0) (eval-below b s.1.0) (eval-below (a ⊗ b) t)
  computed-means (opposite a) t = E.negate-means (computed O xs a) (eval (values xs) a) (computed-means a t) (eval-below (opposite a) t)
