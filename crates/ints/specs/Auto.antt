-- The solver and the bounds with no expression written: `search` finds an expression for a term, by the term's own operations.
--   Quoted ρ z         an expression whose value at ρ is z: `search quote`
--   Computed O xs x    an expression of which code with the operations O has x: `search signed_code`, `search float_code`
--   BeforeStore w xs x an expression of which x is the last operation's result, before it is written: `search signed_code`
-- An identity of ℤ:      `ring! ρ (search quote depth 12) (search quote depth 12) refl`
-- A goal of signed code: `need! w64 xs (search signed_code depth 12) tt`
-- Its result:            `computes! w64 xs (search signed_code depth 12) (search quote depth 12) tt refl`, which also proves the ring
--                        identity between the code's form and the contract's
-- Float code:            `rep! xs (search float_code depth 12) (search quote depth 12) tt refl`
-- `depth` is the depth of the expression's tree, one more for a leaf; ten variables at the most. `need!`, `computes!` and
-- `rep!` are in proofs/Auto.antt. Assumes nothing.
use Rattle.std.specs.Prelude.{◌≡◌, refl, List, [], ◌∷◌, ℕ, T, leb, ℤ, pos, negsuc, neg_ℤ, ◌+ℤ◌, ◌-ℤ◌, ◌*ℤ◌, Float}
use Rattle.std.proofs.Common.{sym, ◌∙◌, ap, ap₂}
use Rattle.std.specs.Float.Ieee
use Rattle.std.specs.Float.{Format}
use Rattle.std.specs.Float.Ieee.{add, sub, mul}
use Rattle.std.specs.Int.{Width}
use Rattle.ints.specs.Polynomial.{Expr, var, lit, ◌⊕◌, ◌⊖◌, ◌⊗◌, opposite, eval, normalize, ring}
use Rattle.ints.specs.Computation.{Variable, Operations, computed}
use Rattle.ints.specs.Machine.{Cell, read_back, signed_ops, before_store}
use Rattle.ints.specs.Float.{FloatCell, float_ops}

-- ---- a value: one rule for each operation, for a literal, and for each place in the list of variables
pub record Quoted (ρ : List ℤ) (z : ℤ) : Type 0 where
  pub expr : Expr
  pub is : eval ρ expr ≡ z

abbrev pub quote-add : (ρ : List ℤ) (x y : ℤ) → Quoted ρ x → Quoted ρ y → Quoted ρ (x +ℤ y)
quote-add ρ x y p q = record { expr = p.expr ⊕ q.expr; is = ap₂ (λ (a b : ℤ). a +ℤ b) p.is q.is }

abbrev pub quote-sub : (ρ : List ℤ) (x y : ℤ) → Quoted ρ x → Quoted ρ y → Quoted ρ (x -ℤ y)
quote-sub ρ x y p q = record { expr = p.expr ⊖ q.expr; is = ap₂ (λ (a b : ℤ). a -ℤ b) p.is q.is }

abbrev pub quote-mul : (ρ : List ℤ) (x y : ℤ) → Quoted ρ x → Quoted ρ y → Quoted ρ (x *ℤ y)
quote-mul ρ x y p q = record { expr = p.expr ⊗ q.expr; is = ap₂ (λ (a b : ℤ). a *ℤ b) p.is q.is }

abbrev pub quote-opp : (ρ : List ℤ) (x : ℤ) → Quoted ρ x → Quoted ρ (neg_ℤ x)
quote-opp ρ x p = record { expr = opposite p.expr; is = ap neg_ℤ p.is }

-- a number that is written out: at a variable n the test does not compute
abbrev pub quote-lit : (ρ : List ℤ) (n : ℕ) → T (leb n n) → Quoted ρ (pos n)
quote-lit ρ n t = record { expr = lit (pos n); is = refl }

abbrev pub quote-neg-lit : (ρ : List ℤ) (n : ℕ) → T (leb n n) → Quoted ρ (negsuc n)
quote-neg-lit ρ n t = record { expr = lit (negsuc n); is = refl }

abbrev pub quote₀ : (a : ℤ) (ρ : List ℤ) → Quoted (a ∷ ρ) a
quote₀ a ρ = record { expr = var 0; is = refl }

abbrev pub quote₁ : (a b : ℤ) (ρ : List ℤ) → Quoted (a ∷ b ∷ ρ) b
quote₁ a b ρ = record { expr = var 1; is = refl }

abbrev pub quote₂ : (a b c : ℤ) (ρ : List ℤ) → Quoted (a ∷ b ∷ c ∷ ρ) c
quote₂ a b c ρ = record { expr = var 2; is = refl }

abbrev pub quote₃ : (a b c d : ℤ) (ρ : List ℤ) → Quoted (a ∷ b ∷ c ∷ d ∷ ρ) d
quote₃ a b c d ρ = record { expr = var 3; is = refl }

abbrev pub quote₄ : (a b c d e : ℤ) (ρ : List ℤ) → Quoted (a ∷ b ∷ c ∷ d ∷ e ∷ ρ) e
quote₄ a b c d e ρ = record { expr = var 4; is = refl }

abbrev pub quote₅ : (a b c d e f : ℤ) (ρ : List ℤ) → Quoted (a ∷ b ∷ c ∷ d ∷ e ∷ f ∷ ρ) f
quote₅ a b c d e f ρ = record { expr = var 5; is = refl }

abbrev pub quote₆ : (a b c d e f g : ℤ) (ρ : List ℤ) → Quoted (a ∷ b ∷ c ∷ d ∷ e ∷ f ∷ g ∷ ρ) g
quote₆ a b c d e f g ρ = record { expr = var 6; is = refl }

abbrev pub quote₇ : (a b c d e f g h : ℤ) (ρ : List ℤ) → Quoted (a ∷ b ∷ c ∷ d ∷ e ∷ f ∷ g ∷ h ∷ ρ) h
quote₇ a b c d e f g h ρ = record { expr = var 7; is = refl }

abbrev pub quote₈ : (a b c d e f g h i : ℤ) (ρ : List ℤ) → Quoted (a ∷ b ∷ c ∷ d ∷ e ∷ f ∷ g ∷ h ∷ i ∷ ρ) i
quote₈ a b c d e f g h i ρ = record { expr = var 8; is = refl }

abbrev pub quote₉ : (a b c d e f g h i j : ℤ) (ρ : List ℤ) → Quoted (a ∷ b ∷ c ∷ d ∷ e ∷ f ∷ g ∷ h ∷ i ∷ j ∷ ρ) j
quote₉ a b c d e f g h i j ρ = record { expr = var 9; is = refl }

pub ruleset quote = (
  quote₀,
  quote₁,
  quote₂,
  quote₃,
  quote₄,
  quote₅,
  quote₆,
  quote₇,
  quote₈,
  quote₉,
  quote-mul,
  quote-sub,
  quote-add,
  quote-opp,
  quote-lit,
  quote-neg-lit,
  tt,
)

-- the two sides have one normal form
pub ring! : (ρ : List ℤ) {x y : ℤ} (p : Quoted ρ x) (q : Quoted ρ y) → normalize p.expr ≡ normalize q.expr → x ≡ y
ring! ρ p q e = sym p.is ∙ ring ρ p.expr q.expr e ∙ q.is

-- ---- what code has, whatever its operations: one rule for each place in the list of variables
pub record Computed {A : Type 0} {Means : A → ℤ → Type 0} (O : Operations A) (xs : List (Variable A Means)) (x : A) : Type 0 where
  pub expr : Expr
  pub is : computed O xs expr ≡ x

module _ {A : Type 0} {Means : A → ℤ → Type 0} where
  abbrev pub has₀ : (O : Operations A) (a : Variable A Means) (xs : List (Variable A Means)) → Computed O (a ∷ xs) a.has
  has₀ O a xs = record { expr = var 0; is = refl }

  abbrev pub has₁ : (O : Operations A) (a b : Variable A Means) (xs : List (Variable A Means)) → Computed O (a ∷ b ∷ xs) b.has
  has₁ O a b xs = record { expr = var 1; is = refl }

  abbrev pub has₂ : (O : Operations A) (a b c : Variable A Means) (xs : List (Variable A Means)) → Computed O (a ∷ b ∷ c ∷ xs) c.has
  has₂ O a b c xs = record { expr = var 2; is = refl }

  abbrev pub has₃ : (O : Operations A) (a b c d : Variable A Means) (xs : List (Variable A Means)) → Computed O (a ∷ b ∷ c ∷ d ∷ xs) d.has
  has₃ O a b c d xs = record { expr = var 3; is = refl }

  abbrev pub has₄ : (O : Operations A) (a b c d e : Variable A Means) (xs : List (Variable A Means)) → Computed O (a ∷ b ∷ c ∷ d ∷ e ∷ xs) e.has
  has₄ O a b c d e xs = record { expr = var 4; is = refl }

  abbrev pub has₅ : (O : Operations A) (a b c d e f : Variable A Means) (xs : List (Variable A Means)) →
      Computed O (a ∷ b ∷ c ∷ d ∷ e ∷ f ∷ xs) f.has
  has₅ O a b c d e f xs = record { expr = var 5; is = refl }

  abbrev pub has₆ : (O : Operations A) (a b c d e f g : Variable A Means) (xs : List (Variable A Means)) →
      Computed O (a ∷ b ∷ c ∷ d ∷ e ∷ f ∷ g ∷ xs) g.has
  has₆ O a b c d e f g xs = record { expr = var 6; is = refl }

  abbrev pub has₇ : (O : Operations A) (a b c d e f g h : Variable A Means) (xs : List (Variable A Means)) →
      Computed O (a ∷ b ∷ c ∷ d ∷ e ∷ f ∷ g ∷ h ∷ xs) h.has
  has₇ O a b c d e f g h xs = record { expr = var 7; is = refl }

  abbrev pub has₈ : (O : Operations A) (a b c d e f g h i : Variable A Means) (xs : List (Variable A Means)) →
      Computed O (a ∷ b ∷ c ∷ d ∷ e ∷ f ∷ g ∷ h ∷ i ∷ xs) i.has
  has₈ O a b c d e f g h i xs = record { expr = var 8; is = refl }

  abbrev pub has₉ : (O : Operations A) (a b c d e f g h i j : Variable A Means) (xs : List (Variable A Means)) →
      Computed O (a ∷ b ∷ c ∷ d ∷ e ∷ f ∷ g ∷ h ∷ i ∷ j ∷ xs) j.has
  has₉ O a b c d e f g h i j xs = record { expr = var 9; is = refl }

-- ---- signed code
pub record BeforeStore (w : Width) (xs : List Cell) (x : ℤ) : Type 0 where
  pub expr : Expr
  pub is : before_store w xs expr ≡ x

abbrev pub has-add : (w : Width) (xs : List Cell) (x y : ℤ) → Computed (signed_ops w) xs x → Computed (signed_ops w) xs y →
    Computed (signed_ops w) xs (read_back w (x +ℤ y))
has-add w xs x y p q = record { expr = p.expr ⊕ q.expr; is = ap₂ (λ (a b : ℤ). read_back w (a +ℤ b)) p.is q.is }

abbrev pub before-add : (w : Width) (xs : List Cell) (x y : ℤ) → Computed (signed_ops w) xs x → Computed (signed_ops w) xs y → BeforeStore w xs (x +ℤ y)
before-add w xs x y p q = record { expr = p.expr ⊕ q.expr; is = ap₂ (λ (a b : ℤ). a +ℤ b) p.is q.is }

abbrev pub has_sub : (w : Width) (xs : List Cell) (x y : ℤ) → Computed (signed_ops w) xs x → Computed (signed_ops w) xs y →
    Computed (signed_ops w) xs (read_back w (x -ℤ y))
has_sub w xs x y p q = record { expr = p.expr ⊖ q.expr; is = ap₂ (λ (a b : ℤ). read_back w (a -ℤ b)) p.is q.is }

abbrev pub before-sub : (w : Width) (xs : List Cell) (x y : ℤ) → Computed (signed_ops w) xs x → Computed (signed_ops w) xs y → BeforeStore w xs (x -ℤ y)
before-sub w xs x y p q = record { expr = p.expr ⊖ q.expr; is = ap₂ (λ (a b : ℤ). a -ℤ b) p.is q.is }

abbrev pub has-mul : (w : Width) (xs : List Cell) (x y : ℤ) → Computed (signed_ops w) xs x → Computed (signed_ops w) xs y →
    Computed (signed_ops w) xs (read_back w (x *ℤ y))
has-mul w xs x y p q = record { expr = p.expr ⊗ q.expr; is = ap₂ (λ (a b : ℤ). read_back w (a *ℤ b)) p.is q.is }

abbrev pub before-mul : (w : Width) (xs : List Cell) (x y : ℤ) → Computed (signed_ops w) xs x → Computed (signed_ops w) xs y → BeforeStore w xs (x *ℤ y)
before-mul w xs x y p q = record { expr = p.expr ⊗ q.expr; is = ap₂ (λ (a b : ℤ). a *ℤ b) p.is q.is }

abbrev pub has-lit : (w : Width) (xs : List Cell) (n : ℕ) → T (leb n n) → Computed (signed_ops w) xs (pos n)
has-lit w xs n t = record { expr = lit (pos n); is = refl }

abbrev pub has-neg-lit : (w : Width) (xs : List Cell) (n : ℕ) → T (leb n n) → Computed (signed_ops w) xs (negsuc n)
has-neg-lit w xs n t = record { expr = lit (negsuc n); is = refl }

pub ruleset signed_code = (
  has₀,
  has₁,
  has₂,
  has₃,
  has₄,
  has₅,
  has₆,
  has₇,
  has₈,
  has₉,
  has-mul,
  has_sub,
  has-add,
  before-mul,
  before-sub,
  before-add,
  has-lit,
  has-neg-lit,
  tt,
)

-- ---- float code
abbrev pub float_add : (f : Format) (xs : List (FloatCell f)) (x y : Float) → Computed (float_ops f) xs x → Computed (float_ops f) xs y →
    Computed (float_ops f) xs (add f x y)
float_add f xs x y p q = record { expr = p.expr ⊕ q.expr; is = ap₂ (λ (a b : Float). add f a b) p.is q.is }

abbrev pub float_sub : (f : Format) (xs : List (FloatCell f)) (x y : Float) → Computed (float_ops f) xs x → Computed (float_ops f) xs y →
    Computed (float_ops f) xs (sub f x y)
float_sub f xs x y p q = record { expr = p.expr ⊖ q.expr; is = ap₂ (λ (a b : Float). sub f a b) p.is q.is }

abbrev pub float_mul : (f : Format) (xs : List (FloatCell f)) (x y : Float) → Computed (float_ops f) xs x → Computed (float_ops f) xs y →
    Computed (float_ops f) xs (mul f x y)
float_mul f xs x y p q = record { expr = p.expr ⊗ q.expr; is = ap₂ (λ (a b : Float). mul f a b) p.is q.is }

abbrev pub float_neg : (f : Format) (xs : List (FloatCell f)) (x : Float) → Computed (float_ops f) xs x → Computed (float_ops f) xs (Ieee.neg x)
float_neg f xs x p = record { expr = opposite p.expr; is = ap Ieee.neg p.is }

pub ruleset float_code = (has₀, has₁, has₂, has₃, has₄, has₅, has₆, has₇, has₈, has₉, float_mul, float_sub, float_add, float_neg)

-- ---- test: six variables
test-six : (u F a n G S : ℤ) → u *ℤ F +ℤ a *ℤ (n *ℤ G -ℤ S *ℤ F) ≡ (u -ℤ a *ℤ S) *ℤ F +ℤ (a *ℤ n) *ℤ G
test-six u F a n G S = ring! (u ∷ F ∷ a ∷ n ∷ G ∷ S ∷ []) (search quote depth 12) (search quote depth 12) refl
