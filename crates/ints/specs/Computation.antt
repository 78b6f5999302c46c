-- What code has after it computed an expression, for any kind of numbers: signed integers (`Machine`) and floats (`Float`) round or wrap
-- after each operation, and are exact as long as every part of the expression is small. A `Variable` is what the code has, the integer
-- that it stands for, and a bound on that integer. `computed` is what the code has of an expression over such variables. That it stands
-- for the expression's value, by one test of literals (`all_below`), is `computed-means` of proofs/Computation.antt. Assumes nothing.
use Rattle.std.specs.Prelude.{Bool, ◌&&◌, List, [], ◌∷◌, ℕ, zero, suc, ◌+◌, ◌*◌, ◌≤◌, ◌<◌, T, ltb, ℤ, pos, neg_ℤ, nat_abs, ◌+ℤ◌, ◌-ℤ◌, ◌*ℤ◌}
use Rattle.std.proofs.Math.Facts.{and_yes}
use Rattle.ints.specs.Polynomial.{Expr, var, lit, ◌⊕◌, ◌⊖◌, ◌⊗◌, opposite}
use Rattle.ints.specs.Bound.{bound_at, bound_of}

-- ---- variables: `Means x z` says that the code's x stands for the integer z
pub record Variable (A : Type 0) (Means : A → ℤ → Type 0) : Type 0 where
  pub has : A
  pub is : ℤ
  pub bound : ℕ
  pub same : Means has is
  pub small : nat_abs is ≤ bound

module _ {A : Type 0} {Means : A → ℤ → Type 0} where
  abbrev pub values : List (Variable A Means) → List ℤ
  values [] = []
  values (x ∷ xs) = x.is ∷ values xs

  abbrev pub bounds : List (Variable A Means) → List ℕ
  bounds [] = []
  bounds (x ∷ xs) = x.bound ∷ bounds xs

-- ---- operations of the code, and that each is the integers' where operands and result are below a limit in size
pub record Operations (A : Type 0) : Type 0 where
  pub literal : ℤ → A
  pub plus : A → A → A
  pub minus : A → A → A
  pub times : A → A → A
  pub negate : A → A

pub record Exact {A : Type 0} (Means : A → ℤ → Type 0) (O : Operations A) (limit : ℕ) : Type 0 where
  pub literal-means : (c : ℤ) → Means (O.literal c) c
  pub plus-means : (x y : A) (a b : ℤ) → Means x a → Means y b → nat_abs a < limit → nat_abs b < limit → nat_abs (a +ℤ b) < limit →
      Means (O.plus x y) (a +ℤ b)
  pub minus-means : (x y : A) (a b : ℤ) → Means x a → Means y b → nat_abs a < limit → nat_abs b < limit → nat_abs (a -ℤ b) < limit →
      Means (O.minus x y) (a -ℤ b)
  pub times-means : (x y : A) (a b : ℤ) → Means x a → Means y b → nat_abs a < limit → nat_abs b < limit → nat_abs (a *ℤ b) < limit →
      Means (O.times x y) (a *ℤ b)
  pub negate-means : (x : A) (a : ℤ) → Means x a → nat_abs (neg_ℤ a) < limit → Means (O.negate x) (neg_ℤ a)

-- ---- an expression
module _ {A : Type 0} {Means : A → ℤ → Type 0} (O : Operations A) where
  abbrev pub held_at : List (Variable A Means) → ℕ → A
  held_at [] i = O.literal (pos 0)
  held_at (x ∷ xs) zero = x.has
  held_at (x ∷ xs) (suc i) = held_at xs i

  abbrev pub computed : List (Variable A Means) → Expr → A
  computed xs (var i) = held_at xs i
  computed xs (lit c) = O.literal c
  computed xs (a ⊕ b) = O.plus (computed xs a) (computed xs b)
  computed xs (a ⊖ b) = O.minus (computed xs a) (computed xs b)
  computed xs (a ⊗ b) = O.times (computed xs a) (computed xs b)
  computed xs (opposite a) = O.negate (computed xs a)

-- every part of an expression is below M in size, by the bounds B of the variables
abbrev pub all_below : ℕ → List ℕ → Expr → Bool
all_below M B (var i) = ltb (bound_at B i) M
all_below M B (lit c) = ltb (nat_abs c) M
all_below M B (a ⊕ b) = all_below M B a && (all_below M B b && ltb (bound_of B a + bound_of B b) M)
all_below M B (a ⊖ b) = all_below M B a && (all_below M B b && ltb (bound_of B a + bound_of B b) M)
all_below M B (a ⊗ b) = all_below M B a && (all_below M B b && ltb (bound_of B a * bound_of B b) M)
all_below M B (opposite a) = all_below M B a

-- the test of an operation with the operands a and b and a result of at most n: of each operand, and of the result
pub operands : (M : ℕ) (B : List ℕ) (a b : Expr) (n : ℕ) → T (all_below M B a && (all_below M B b && ltb n M)) →
    T (all_below M B a) × (T (all_below M B b) × T (ltb n M))
operands M B a b n t =
    let s = and_yes (all_below M B a) (all_below M B b && ltb n M) t in
    (s.0, and_yes (all_below M B b) (ltb n M) s.1)
