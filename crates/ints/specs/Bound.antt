-- How large an integer is, and so whether a signed width holds it. `nat_abs z ≤ B` says |z| ≤ B; a literal B then answers a need of
-- signed code by one comparison of literals, `sfits-abs B h tt`. `eval-within ρ B e h`, of proofs/Bound.antt, bounds a whole
-- expression by the bounds of its variables. A fact `nat_abs z ≤ B` does not tell z to the checker, so the laws take z by name. Assumes nothing.
use Rattle.std.specs.Prelude.{◌≡◌, refl, Bool, true, false, cond, List, [], ◌∷◌, ℕ, zero, suc, ◌+◌, ◌-◌, ◌*◌, ◌^◌, ◌≤◌, ◌<◌, T, leb, ltb, ℤ, pos, negsuc, neg_ℤ, nat_abs, ◌+ℤ◌, ◌-ℤ◌, ◌*ℤ◌, ◌≤ℤ◌}
use Rattle.std.proofs.Common.{le_trans, le_of_eq, lt_of_le_of_lt, lt_of_lt_of_le, mul-le-mul, le_refl, arith, leb→le, ltb→lt}
use Rattle.std.proofs.Math.IntN.{sub_ℕ}
use Rattle.std.specs.Int.Signed.{mag}
use Rattle.std.specs.Int.{Width}
use mir.Val.{Fits, SFits, hbits, bits}
use Rattle.ints.specs.Order.{pos_part, neg_part, pos_part-neg, neg_part-neg}
use Rattle.ints.specs.Linear.{ints}
use Rattle.ints.specs.Polynomial.{Expr, var, lit, ◌⊕◌, ◌⊖◌, ◌⊗◌, opposite}

-- ---- the size of a negation, a product, a sum
pub abs-parts : (z : ℤ) → nat_abs z ≡ pos_part z + neg_part z
abs-parts (pos n) = omega arith
abs-parts (negsuc n) = omega arith

pub abs_neg : (z : ℤ) → nat_abs (neg_ℤ z) ≡ nat_abs z
abs_neg (pos zero) = refl
abs_neg (pos (suc n)) = refl
abs_neg (negsuc n) = refl

pub abs-mul : (a b : ℤ) → nat_abs (a *ℤ b) ≡ nat_abs a * nat_abs b
abs-mul (pos a) (pos b) = refl
abs-mul (pos a) (negsuc b) = abs_neg (pos (a * suc b))
abs-mul (negsuc a) (pos b) = abs_neg (pos (suc a * b))
abs-mul (negsuc a) (negsuc b) = refl

abs-sub' : (a b : ℕ) (c : Bool) → (T c → a < b) → nat_abs (cond c (negsuc (b - suc a)) (pos (a - b))) ≤ a + b
abs-sub' a b true f = omega (arith, f tt)
abs-sub' a b false f = omega arith

abs-subℕ : (a b : ℕ) → nat_abs (sub_ℕ a b) ≤ a + b
abs-subℕ a b = abs-sub' a b (ltb a b) (ltb→lt a b)

pub abs-add : (a b : ℤ) → nat_abs (a +ℤ b) ≤ nat_abs a + nat_abs b
abs-add (pos a) (pos b) = le_refl (a + b)
abs-add (pos a) (negsuc b) = abs-subℕ a (suc b)
abs-add (negsuc a) (pos b) = omega (arith, abs-subℕ b (suc a))
abs-add (negsuc a) (negsuc b) = omega arith

-- ---- |a| ≤ A and |b| ≤ B
pub abs-add-le : (a b : ℤ) {A B : ℕ} → nat_abs a ≤ A → nat_abs b ≤ B → nat_abs (a +ℤ b) ≤ A + B
abs-add-le a b h l = omega (arith, abs-add a b)

pub abs-sub-le : (a b : ℤ) {A B : ℕ} → nat_abs a ≤ A → nat_abs b ≤ B → nat_abs (a -ℤ b) ≤ A + B
abs-sub-le a b h l = omega (arith, abs-add a (neg_ℤ b), abs_neg b)

pub abs-mul-le : (a b : ℤ) {A B : ℕ} → nat_abs a ≤ A → nat_abs b ≤ B → nat_abs (a *ℤ b) ≤ A * B
abs-mul-le a b h l = le_trans (le_of_eq (abs-mul a b)) (mul-le-mul h l)

pub abs-neg-le : (a : ℤ) {A : ℕ} → nat_abs a ≤ A → nat_abs (neg_ℤ a) ≤ A
abs-neg-le a h = omega (arith, abs_neg a)

-- ---- a bound from two orders
pub abs-le : {z : ℤ} {B : ℕ} → neg_ℤ (pos B) ≤ℤ z → z ≤ℤ pos B → nat_abs z ≤ B
abs-le {z = pos n} {B} h l = omega (arith, ints)
abs-le {z = negsuc n} {B} h l = omega (arith, ints, pos_part-neg (pos B), neg_part-neg (pos B))

pub abs-le-nonneg : {z : ℤ} {B : ℕ} → pos 0 ≤ℤ z → z ≤ℤ pos B → nat_abs z ≤ B
abs-le-nonneg {z = pos n} {B} h l = omega (arith, ints)
abs-le-nonneg {z = negsuc n} {B} h l = absurd h.le

-- ---- a signed width holds it
mag-le : (z : ℤ) → mag z ≤ nat_abs z
mag-le (pos n) = le_refl n
mag-le (negsuc n) = omega arith

pub sfits-below : {w : Width} {z : ℤ} → nat_abs z < 2 ^ hbits w → SFits w z
sfits-below {w} {z} h = record { sfits = lt_of_le_of_lt (mag-le z) h }

pub sfits-abs : {w : Width} {z : ℤ} (B : ℕ) → nat_abs z ≤ B → T (ltb B (2 ^ hbits w)) → SFits w z
sfits-abs {w} B h t = sfits-below (lt_of_le_of_lt h (ltb→lt B (2 ^ hbits w) t))

-- the value of `x as i64`, for an x of an unsigned type
pub sfits_pos : {w : Width} {n : ℕ} (B : ℕ) → n ≤ B → T (ltb B (2 ^ hbits w)) → SFits w (pos n)
sfits_pos {w} {n} B h t = sfits-abs B h t

-- an unsigned number of w bits fits a wider signed type
pub sfits-cast : {w w' : Width} {n : ℕ} → Fits w n → T (leb (2 ^ bits w) (2 ^ hbits w')) → SFits w' (pos n)
sfits-cast {w} {w'} h t = sfits-below (lt_of_lt_of_le h.fits (leb→le (2 ^ bits w) (2 ^ hbits w') t))

-- ---- the bound of an expression
abbrev pub bound_at : List ℕ → ℕ → ℕ
bound_at [] i = 0
bound_at (b ∷ B) zero = b
bound_at (b ∷ B) (suc i) = bound_at B i

abbrev pub bound_of : List ℕ → Expr → ℕ
bound_of B (var i) = bound_at B i
bound_of B (lit c) = nat_abs c
bound_of B (a ⊕ b) = bound_of B a + bound_of B b
bound_of B (a ⊖ b) = bound_of B a + bound_of B b
bound_of B (a ⊗ b) = bound_of B a * bound_of B b
bound_of B (opposite a) = bound_of B a

-- the variables' values are within the bounds: `(h₀, (h₁, (h₂, tt)))`
abbrev pub WithinBounds : List ℤ → List ℕ → Type 0
WithinBounds [] B = Unit {0}
WithinBounds (z ∷ ρ) [] = ⊥
WithinBounds (z ∷ ρ) (b ∷ B) = (nat_abs z ≤ b) × WithinBounds ρ B
