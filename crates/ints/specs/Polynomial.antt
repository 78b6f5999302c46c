-- A ring solver for ℤ: an identity of polynomials is proved by comparing two normal forms, and no law is cited by hand. `Expr` is a
-- polynomial over numbered variables, `eval ρ e` its value where ρ lists the variables' values, and `normalize e` its normal form: a
-- sorted list of terms, each a coefficient that is not 0 and a sorted list of variables. `ring ρ a b refl` proves
-- `eval ρ a ≡ eval ρ b` where the normal forms agree; `solve3 (λ x y z. lhs ≐ rhs) refl x y z` is the same with names.
-- `Auto` finds the expressions by itself. Assumes nothing.
use Rattle.std.specs.Prelude.{◌≡◌, refl, Bool, true, false, cond, ◌&&◌, List, [], ◌∷◌, ℕ, zero, suc, T, leb, ltb, eqb, ℤ, pos, negsuc, neg_ℤ, ◌+ℤ◌, ◌-ℤ◌, ◌*ℤ◌}
use Rattle.std.proofs.Common.{sym, ◌∙◌, ap, ap₂, eqb→eq}
use Rattle.std.proofs.Math.IntN.{+ℤ_idl, +ℤ_idr, +ℤ_assoc, neg_ℤ-+ℤ, zero-*ℤ, *ℤ-zero}
use Rattle.std.proofs.Math.Facts.{and_yes}
use Rattle.ints.specs.Ring.{+-left-comm, add-mul, mul-add, neg-mul, mul_assoc, mul_left_comm, one-mul, mul-one}

-- ---- expressions
infixl 6 ◌⊕◌ ◌⊖◌
infixl 7 ◌⊗◌
pub data Expr : Type 0 where
  var : ℕ → Expr
  lit : ℤ → Expr
  ◌⊕◌ ◌⊖◌ ◌⊗◌ : Expr → Expr → Expr
  opposite : Expr → Expr

-- a natural number as an expression: `# 2`
infix 9 #◌
abbrev pub #◌ : ℕ → Expr
#◌ n = lit (pos n)

-- the variables, to import under names of one's own: `use ..Polynomial.{x₀ as n, x₁ as q}`
abbrev pub x₀ : Expr
x₀ = var 0

abbrev pub x₁ : Expr
x₁ = var 1

abbrev pub x₂ : Expr
x₂ = var 2

abbrev pub x₃ : Expr
x₃ = var 3

abbrev pub x₄ : Expr
x₄ = var 4

-- the value of a variable: 0 past the end of the list
abbrev pub at : List ℤ → ℕ → ℤ
at [] i = pos 0
at (z ∷ ρ) zero = z
at (z ∷ ρ) (suc i) = at ρ i

abbrev pub eval : List ℤ → Expr → ℤ
eval ρ (var i) = at ρ i
eval ρ (lit c) = c
eval ρ (a ⊕ b) = eval ρ a +ℤ eval ρ b
eval ρ (a ⊖ b) = eval ρ a -ℤ eval ρ b
eval ρ (a ⊗ b) = eval ρ a *ℤ eval ρ b
eval ρ (opposite a) = neg_ℤ (eval ρ a)

-- ---- normal forms: terms, each a coefficient and a product of variables
pub data Poly : Type 0 where
  nil : Poly
  term : ℤ → List ℕ → Poly → Poly

-- a variable is put into a sorted product of variables
abbrev pub insert_var : ℕ → List ℕ → List ℕ
insert_var i [] = i ∷ []
insert_var i (j ∷ m) = cond (leb i j) (i ∷ j ∷ m) (j ∷ insert_var i m)

-- the product of two such products, whether they are the same, and which comes first
abbrev pub mul_vars : List ℕ → List ℕ → List ℕ
mul_vars [] n = n
mul_vars (i ∷ m) n = insert_var i (mul_vars m n)

abbrev pub eq_vars : List ℕ → List ℕ → Bool
eq_vars [] [] = true
eq_vars [] (j ∷ n) = false
eq_vars (i ∷ m) [] = false
eq_vars (i ∷ m) (j ∷ n) = eqb i j && eq_vars m n

abbrev pub lt_vars : List ℕ → List ℕ → Bool
lt_vars [] [] = false
lt_vars [] (j ∷ n) = true
lt_vars (i ∷ m) [] = false
lt_vars (i ∷ m) (j ∷ n) = cond (ltb i j) true (cond (ltb j i) false (lt_vars m n))

-- a term with the coefficient 0 is left out
abbrev pub put_term : ℤ → List ℕ → Poly → Poly
put_term (pos zero) m p = p
put_term (pos (suc c)) m p = term (pos (suc c)) m p
put_term (negsuc c) m p = term (negsuc c) m p

-- a term is put into its place, or added to the one with the same variables
abbrev pub insert_term : ℤ → List ℕ → Poly → Poly
insert_term c m nil = put_term c m nil
insert_term c m (term d n p) = cond (eq_vars m n) (put_term (c +ℤ d) n p) (cond (lt_vars m n) (put_term c m (term d n p)) (term d n (insert_term c m p)))

abbrev pub add_poly : Poly → Poly → Poly
add_poly nil q = q
add_poly (term c m p) q = insert_term c m (add_poly p q)

abbrev pub neg_poly : Poly → Poly
neg_poly nil = nil
neg_poly (term c m p) = term (neg_ℤ c) m (neg_poly p)

abbrev pub mul_term : ℤ → List ℕ → Poly → Poly
mul_term c m nil = nil
mul_term c m (term d n q) = insert_term (c *ℤ d) (mul_vars m n) (mul_term c m q)

abbrev pub mul_poly : Poly → Poly → Poly
mul_poly nil q = nil
mul_poly (term c m p) q = add_poly (mul_term c m q) (mul_poly p q)

abbrev pub normalize : Expr → Poly
normalize (var i) = term (pos 1) (i ∷ []) nil
normalize (lit c) = put_term c [] nil
normalize (a ⊕ b) = add_poly (normalize a) (normalize b)
normalize (a ⊖ b) = add_poly (normalize a) (neg_poly (normalize b))
normalize (a ⊗ b) = mul_poly (normalize a) (normalize b)
normalize (opposite a) = neg_poly (normalize a)

-- ---- the value of a normal form is the expression's: each operation on normal forms is that on values
module _ (ρ : List ℤ) where
  abbrev pub eval_vars : List ℕ → ℤ
  eval_vars [] = pos 1
  eval_vars (i ∷ m) = at ρ i *ℤ eval_vars m

  abbrev pub eval_poly : Poly → ℤ
  eval_poly nil = pos 0
  eval_poly (term c m p) = c *ℤ eval_vars m +ℤ eval_poly p

  insert_var-is : (i : ℕ) (m : List ℕ) → eval_vars (insert_var i m) ≡ at ρ i *ℤ eval_vars m
  insert_var-is i [] = refl
  insert_var-is i (j ∷ m) = go (leb i j) (insert_var-is i m)
    where
      go : (b : Bool) → eval_vars (insert_var i m) ≡ at ρ i *ℤ eval_vars m →
          eval_vars (cond b (i ∷ j ∷ m) (j ∷ insert_var i m)) ≡ at ρ i *ℤ (at ρ j *ℤ eval_vars m)
      go true h = refl
      go false h = ap (λ (x : ℤ). at ρ j *ℤ x) h ∙ mul_left_comm (at ρ j) (at ρ i) (eval_vars m)

  mul_vars-is : (m n : List ℕ) → eval_vars (mul_vars m n) ≡ eval_vars m *ℤ eval_vars n
  mul_vars-is [] n = sym (one-mul (eval_vars n))
  mul_vars-is (i ∷ m) n =
      insert_var-is i (mul_vars m n) ∙ ap (λ (x : ℤ). at ρ i *ℤ x) (mul_vars-is m n) ∙ sym (mul_assoc (at ρ i) (eval_vars m) (eval_vars n))

  put_term-is : (c : ℤ) (m : List ℕ) (p : Poly) → eval_poly (put_term c m p) ≡ c *ℤ eval_vars m +ℤ eval_poly p
  put_term-is (pos zero) m p = sym (ap (λ (x : ℤ). x +ℤ eval_poly p) (zero-*ℤ (eval_vars m)) ∙ +ℤ_idl (eval_poly p))
  put_term-is (pos (suc c)) m p = refl
  put_term-is (negsuc c) m p = refl

  eq_vars-is : (m n : List ℕ) → T (eq_vars m n) → m ≡ n
  eq_vars-is [] [] t = refl
  eq_vars-is [] (j ∷ n) t = absurd t
  eq_vars-is (i ∷ m) [] t = absurd t
  eq_vars-is (i ∷ m) (j ∷ n) t =
      let both = and_yes (eqb i j) (eq_vars m n) t in
      ap₂ (λ (x : ℕ) (y : List ℕ). x ∷ y) (eqb→eq i j both.0) (eq_vars-is m n both.1)

  insert_term-is : (c : ℤ) (m : List ℕ) (p : Poly) → eval_poly (insert_term c m p) ≡ c *ℤ eval_vars m +ℤ eval_poly p
  insert_term-is c m nil = put_term-is c m nil
  insert_term-is c m (term d n p) = go (eq_vars m n) (eq_vars-is m n) (lt_vars m n) (insert_term-is c m p)
    where
      go : (b : Bool) → (T b → m ≡ n) → (l : Bool) → eval_poly (insert_term c m p) ≡ c *ℤ eval_vars m +ℤ eval_poly p
          →
          eval_poly (cond b (put_term (c +ℤ d) n p) (cond l (put_term c m (term d n p)) (term d n (insert_term c m p)))) ≡ c *ℤ eval_vars m +ℤ
          (d *ℤ eval_vars n +ℤ eval_poly p)
      go true e l h =
          put_term-is (c +ℤ d) n p
          ∙ ap (λ (x : ℤ). x +ℤ eval_poly p) (add-mul c d (eval_vars n))
          ∙ +ℤ_assoc (c *ℤ eval_vars n) (d *ℤ eval_vars n) (eval_poly p)
          ∙ ap (λ (x : List ℕ). c *ℤ eval_vars x +ℤ (d *ℤ eval_vars n +ℤ eval_poly p)) (sym (e tt))
      go false e true h = put_term-is c m (term d n p)
      go false e false h = ap (λ (x : ℤ). d *ℤ eval_vars n +ℤ x) h ∙ +-left-comm (d *ℤ eval_vars n) (c *ℤ eval_vars m) (eval_poly p)

  add_poly-is : (p q : Poly) → eval_poly (add_poly p q) ≡ eval_poly p +ℤ eval_poly q
  add_poly-is nil q = sym (+ℤ_idl (eval_poly q))
  add_poly-is (term c m p) q =
      insert_term-is c m (add_poly p q) ∙ ap (λ (x : ℤ). c *ℤ eval_vars m +ℤ x) (add_poly-is p q) ∙ sym
      (+ℤ_assoc (c *ℤ eval_vars m) (eval_poly p) (eval_poly q))

  neg_poly-is : (p : Poly) → eval_poly (neg_poly p) ≡ neg_ℤ (eval_poly p)
  neg_poly-is nil = refl
  neg_poly-is (term c m p) = ap₂ (λ (x y : ℤ). x +ℤ y) (neg-mul c (eval_vars m)) (neg_poly-is p) ∙ sym (neg_ℤ-+ℤ (c *ℤ eval_vars m) (eval_poly p))

  swap_mul : (a b c d : ℤ) → (a *ℤ b) *ℤ (c *ℤ d) ≡ (a *ℤ c) *ℤ (b *ℤ d)
  swap_mul a b c d = mul_assoc a b (c *ℤ d) ∙ ap (λ (x : ℤ). a *ℤ x) (mul_left_comm b c d) ∙ sym (mul_assoc a c (b *ℤ d))

  mul_term-is : (c : ℤ) (m : List ℕ) (q : Poly) → eval_poly (mul_term c m q) ≡ (c *ℤ eval_vars m) *ℤ eval_poly q
  mul_term-is c m nil = sym (*ℤ-zero (c *ℤ eval_vars m))
  mul_term-is c m (term d n q) =
      insert_term-is (c *ℤ d) (mul_vars m n) (mul_term c m q)
      ∙ ap₂ (λ (x y : ℤ). x +ℤ y) (ap (λ (x : ℤ). (c *ℤ d) *ℤ x) (mul_vars-is m n) ∙ swap_mul c d (eval_vars m) (eval_vars n)) (mul_term-is c m q)
      ∙ sym (mul-add (c *ℤ eval_vars m) (d *ℤ eval_vars n) (eval_poly q))

  mul_poly-is : (p q : Poly) → eval_poly (mul_poly p q) ≡ eval_poly p *ℤ eval_poly q
  mul_poly-is nil q = sym (zero-*ℤ (eval_poly q))
  mul_poly-is (term c m p) q =
      add_poly-is (mul_term c m q) (mul_poly p q)
      ∙ ap₂ (λ (x y : ℤ). x +ℤ y) (mul_term-is c m q) (mul_poly-is p q)
      ∙ sym (add-mul (c *ℤ eval_vars m) (eval_poly p) (eval_poly q))

  normalize-is : (e : Expr) → eval_poly (normalize e) ≡ eval ρ e
  normalize-is (var i) = +ℤ_idr (pos 1 *ℤ (at ρ i *ℤ pos 1)) ∙ one-mul (at ρ i *ℤ pos 1) ∙ mul-one (at ρ i)
  normalize-is (lit c) = put_term-is c [] nil ∙ +ℤ_idr (c *ℤ pos 1) ∙ mul-one c
  normalize-is (a ⊕ b) = add_poly-is (normalize a) (normalize b) ∙ ap₂ (λ (x y : ℤ). x +ℤ y) (normalize-is a) (normalize-is b)
  normalize-is (a ⊖ b) =
      add_poly-is (normalize a) (neg_poly (normalize b)) ∙ ap₂ (λ (x y : ℤ). x +ℤ y) (normalize-is a)
      (neg_poly-is (normalize b) ∙ ap neg_ℤ (normalize-is b))
  normalize-is (a ⊗ b) = mul_poly-is (normalize a) (normalize b) ∙ ap₂ (λ (x y : ℤ). x *ℤ y) (normalize-is a) (normalize-is b)
  normalize-is (opposite a) = neg_poly-is (normalize a) ∙ ap neg_ℤ (normalize-is a)

  -- `ring ρ a b refl`
  pub ring : (a b : Expr) → normalize a ≡ normalize b → eval ρ a ≡ eval ρ b
  ring a b e = sym (normalize-is a) ∙ ap eval_poly e ∙ normalize-is b

-- ---- with names for the variables
infix 4 ◌≐◌
pub data Equation : Type 0 where
  ◌≐◌ : Expr → Expr → Equation

abbrev pub lhs : Equation → Expr
lhs (a ≐ b) = a

abbrev pub rhs : Equation → Expr
rhs (a ≐ b) = b

-- what is to be shown of an equation, and what it says
abbrev pub EquationHolds : Equation → Type 0
EquationHolds q = normalize (lhs q) ≡ normalize (rhs q)

abbrev pub Says : List ℤ → Equation → Type 0
Says ρ q = eval ρ (lhs q) ≡ eval ρ (rhs q)

solve : (ρ : List ℤ) (q : Equation) → EquationHolds q → Says ρ q
solve ρ q e = ring ρ (lhs q) (rhs q) e

pub solve1 : (f : Expr → Equation) → EquationHolds (f (var 0)) → (a : ℤ) → Says (a ∷ []) (f (var 0))
solve1 f p a = solve (a ∷ []) (f (var 0)) p

pub solve2 : (f : Expr → Expr → Equation) → EquationHolds (f (var 0) (var 1)) → (a b : ℤ) → Says (a ∷ b ∷ []) (f (var 0) (var 1))
solve2 f p a b = solve (a ∷ b ∷ []) (f (var 0) (var 1)) p

pub solve3 : (f : Expr → Expr → Expr → Equation) → EquationHolds (f (var 0) (var 1) (var 2)) → (a b c : ℤ) →
    Says (a ∷ b ∷ c ∷ []) (f (var 0) (var 1) (var 2))
solve3 f p a b c = solve (a ∷ b ∷ c ∷ []) (f (var 0) (var 1) (var 2)) p

pub solve4 : (f : Expr → Expr → Expr → Expr → Equation) → EquationHolds (f (var 0) (var 1) (var 2) (var 3)) → (a b c d : ℤ) →
    Says (a ∷ b ∷ c ∷ d ∷ []) (f (var 0) (var 1) (var 2) (var 3))
solve4 f p a b c d = solve (a ∷ b ∷ c ∷ d ∷ []) (f (var 0) (var 1) (var 2) (var 3)) p

pub solve5 : (f : Expr → Expr → Expr → Expr → Expr → Equation) → EquationHolds (f (var 0) (var 1) (var 2) (var 3) (var 4)) → (a b c d e : ℤ) →
    Says (a ∷ b ∷ c ∷ d ∷ e ∷ []) (f (var 0) (var 1) (var 2) (var 3) (var 4))
solve5 f p a b c d e = solve (a ∷ b ∷ c ∷ d ∷ e ∷ []) (f (var 0) (var 1) (var 2) (var 3) (var 4)) p

pub solve6 : (f : Expr → Expr → Expr → Expr → Expr → Expr → Equation) → EquationHolds (f (var 0) (var 1) (var 2) (var 3) (var 4) (var 5)) →
    (a b c d e g : ℤ) → Says (a ∷ b ∷ c ∷ d ∷ e ∷ g ∷ []) (f (var 0) (var 1) (var 2) (var 3) (var 4) (var 5))
solve6 f p a b c d e g = solve (a ∷ b ∷ c ∷ d ∷ e ∷ g ∷ []) (f (var 0) (var 1) (var 2) (var 3) (var 4) (var 5)) p

-- ---- tests: six variables, and a literal
test-six : (Q F a n G S : ℤ) → Q *ℤ F +ℤ a *ℤ (n *ℤ G -ℤ S *ℤ F) ≡ (Q -ℤ a *ℤ S) *ℤ F +ℤ (a *ℤ n) *ℤ G
test-six Q F a n G S = solve6 (λ Q F a n G S. Q ⊗ F ⊕ a ⊗ (n ⊗ G ⊖ S ⊗ F) ≐ (Q ⊖ a ⊗ S) ⊗ F ⊕ (a ⊗ n) ⊗ G) refl Q F a n G S

test-square : (a b : ℤ) → (a -ℤ b) *ℤ (a -ℤ b) ≡ a *ℤ a -ℤ pos 2 *ℤ a *ℤ b +ℤ b *ℤ b
test-square a b = solve2 (λ a b. (a ⊖ b) ⊗ (a ⊖ b) ≐ a ⊗ a ⊖ # 2 ⊗ a ⊗ b ⊕ b ⊗ b) refl a b
