-- `Rattle.std.specs.Int.Signed` has the order of ℤ and few of its laws. This file has the rest, by way of natural numbers, where `omega` works:
-- an integer z is `pos_part z - neg_part z`, two natural numbers of which one is 0, so an order or an equation of integers is one of their
-- parts (`le-nat`, `nat_le`, ..), given what the parts of a sum, a difference, a negation and a product are (`add_parts`, ..).
-- The operators of the order bind tighter than those of sums and products: write `(a +ℤ b) ≤ℤ c`. Assumes nothing.
use Rattle.std.specs.Prelude.{◌≡◌, refl, ◌⊎◌, Bool, true, false, not, cond, ℕ, zero, suc, ◌+◌, ◌-◌, ◌*◌, ◌≤◌, ◌<◌, T, leb, ltb, ℤ, pos, negsuc, neg_ℤ, ◌+ℤ◌, ◌-ℤ◌, ◌*ℤ◌, ◌≤ℤ◌, ◌<ℤ◌}
use Rattle.std.proofs.Common.{sym, ap, ap₂, subst, inl, inr, arith, leb→le, le→leb, ltb→lt, lt→ltb, nltb→le}
use Rattle.std.proofs.Math.Nat as NatL
use Rattle.std.proofs.Math.Decide.{dec_lt, ℕ_discrete}
use Rattle.std.proofs.Math.Dec.{nleb→lt}
use Rattle.std.proofs.Math.IntN.{sub_ℕ}
use Rattle.std.specs.Int.Signed.{le_z, lt_z, le_z_yes, ≤ℤ_refl, <ℤ_irrefl}
use Rattle.ints.specs.Ring.{mul-sub}

abbrev pub pos_part : ℤ → ℕ
pos_part (pos n) = n
pos_part (negsuc n) = 0

abbrev pub neg_part : ℤ → ℕ
neg_part (pos n) = 0
neg_part (negsuc n) = suc n

-- ---- orders and equations of integers are those of their parts
le-to : (a b : ℤ) → T (le_z a b) → pos_part a + neg_part b ≤ pos_part b + neg_part a
le-to (pos a) (pos b) t = omega (arith, leb→le a b t)
le-to (pos a) (negsuc b) t = absurd t
le-to (negsuc a) (pos b) t = omega arith
le-to (negsuc a) (negsuc b) t = omega (arith, leb→le b a t)

le_from : (a b : ℤ) → pos_part a + neg_part b ≤ pos_part b + neg_part a → T (le_z a b)
le_from (pos a) (pos b) h = le→leb a b (omega arith)
le_from (pos a) (negsuc b) h = omega (arith, h)
le_from (negsuc a) (pos b) h = tt
le_from (negsuc a) (negsuc b) h = le→leb b a (omega arith)

lt-to : (a b : ℤ) → T (lt_z a b) → pos_part a + neg_part b < pos_part b + neg_part a
lt-to (pos a) (pos b) t = omega (arith, ltb→lt a b t)
lt-to (pos a) (negsuc b) t = absurd t
lt-to (negsuc a) (pos b) t = omega arith
lt-to (negsuc a) (negsuc b) t = omega (arith, ltb→lt b a t)

lt-from : (a b : ℤ) → pos_part a + neg_part b < pos_part b + neg_part a → T (lt_z a b)
lt-from (pos a) (pos b) h = lt→ltb a b (omega arith)
lt-from (pos a) (negsuc b) h = omega (arith, h)
lt-from (negsuc a) (pos b) h = tt
lt-from (negsuc a) (negsuc b) h = lt→ltb b a (omega arith)

pub le-nat : {a b : ℤ} → a ≤ℤ b → pos_part a + neg_part b ≤ pos_part b + neg_part a
le-nat {a} {b} h = le-to a b h.le

pub nat_le : {a b : ℤ} → pos_part a + neg_part b ≤ pos_part b + neg_part a → a ≤ℤ b
nat_le {a} {b} h = record { le = le_from a b h }

pub lt-nat : {a b : ℤ} → a <ℤ b → pos_part a + neg_part b < pos_part b + neg_part a
lt-nat {a} {b} h = lt-to a b h.lt

pub nat_lt : {a b : ℤ} → pos_part a + neg_part b < pos_part b + neg_part a → a <ℤ b
nat_lt {a} {b} h = record { lt = lt-from a b h }

pub eq-nat : {a b : ℤ} → a ≡ b → pos_part a + neg_part b ≡ pos_part b + neg_part a
eq-nat {a} {b} e = ap₂ (λ (x y : ℕ). x + y) (ap pos_part e) (ap neg_part (sym e))

pub nat_eq : (a b : ℤ) → pos_part a + neg_part b ≡ pos_part b + neg_part a → a ≡ b
nat_eq (pos a) (pos b) h = ap pos (omega (arith, h))
nat_eq (pos a) (negsuc b) h = absurd (omega (arith, h))
nat_eq (negsuc a) (pos b) h = absurd (omega (arith, h))
nat_eq (negsuc a) (negsuc b) h = ap negsuc (omega (arith, h))

-- ---- the parts of a sum, a negation, a difference, a product
-- `sub_ℕ a b` is the integer a - b, by the flag c that tells whether a < b
sub-parts' : (a b : ℕ) (c : Bool) → (T c → a < b) → (T (not c) → b ≤ a) →
    pos_part (cond c (negsuc (b - suc a)) (pos (a - b))) + b ≡ a + neg_part (cond c (negsuc (b - suc a)) (pos (a - b)))
sub-parts' a b true f g = omega (arith, f tt)
sub-parts' a b false f g = omega (arith, g tt)

sub_parts : (a b : ℕ) → pos_part (sub_ℕ a b) + b ≡ a + neg_part (sub_ℕ a b)
sub_parts a b = sub-parts' a b (ltb a b) (ltb→lt a b) (nltb→le a b)

pub add_parts : (a b : ℤ) → pos_part (a +ℤ b) + (neg_part a + neg_part b) ≡ (pos_part a + pos_part b) + neg_part (a +ℤ b)
add_parts (pos a) (pos b) = omega arith
add_parts (pos a) (negsuc b) = omega (arith, sub_parts a (suc b))
add_parts (negsuc a) (pos b) = omega (arith, sub_parts b (suc a))
add_parts (negsuc a) (negsuc b) = omega arith

pub pos_part-neg : (a : ℤ) → pos_part (neg_ℤ a) ≡ neg_part a
pos_part-neg (pos zero) = refl
pos_part-neg (pos (suc n)) = refl
pos_part-neg (negsuc n) = refl

pub neg_part-neg : (a : ℤ) → neg_part (neg_ℤ a) ≡ pos_part a
neg_part-neg (pos zero) = refl
neg_part-neg (pos (suc n)) = refl
neg_part-neg (negsuc n) = refl

pub diff-parts : (a b : ℤ) → pos_part (a -ℤ b) + (neg_part a + pos_part b) ≡ (pos_part a + neg_part b) + neg_part (a -ℤ b)
diff-parts a b = omega (arith, add_parts a (neg_ℤ b), pos_part-neg b, neg_part-neg b)

pub mul-parts : (a b : ℤ) →
    pos_part (a *ℤ b) + (pos_part a * neg_part b + neg_part a * pos_part b) ≡ (pos_part a * pos_part b + neg_part a * neg_part b) + neg_part (a *ℤ b)
mul-parts (pos a) (pos b) = omega arith
mul-parts (pos a) (negsuc b) = omega (arith, pos_part-neg (pos (a * suc b)), neg_part-neg (pos (a * suc b)))
mul-parts (negsuc a) (pos b) = omega (arith, pos_part-neg (pos (suc a * b)), neg_part-neg (pos (suc a * b)))
mul-parts (negsuc a) (negsuc b) = omega arith

-- a number that is at least a natural number has no negative part
pub neg_part-zero : {n : ℕ} {z : ℤ} → pos n ≤ℤ z → neg_part z ≡ 0
neg_part-zero {n} {z = pos m} h = refl
neg_part-zero {n} {z = negsuc m} h = absurd h.le

-- ---- the laws of the order. `≤ℤ_refl`, `<ℤ_irrefl` and `clash_ℤ` are in `Rattle.std.specs.Int.Signed`
pub ≤-of-eq : {a b : ℤ} → a ≡ b → a ≤ℤ b
≤-of-eq {a} e = subst (λ (x : ℤ). a ≤ℤ x) e (≤ℤ_refl a)

pub ≤_trans : {a b c : ℤ} → a ≤ℤ b → b ≤ℤ c → a ≤ℤ c
≤_trans h k = nat_le (omega (arith, le-nat h, le-nat k))

pub <-trans : {a b c : ℤ} → a <ℤ b → b <ℤ c → a <ℤ c
<-trans h k = nat_lt (omega (arith, lt-nat h, lt-nat k))

pub ≤-<-trans : {a b c : ℤ} → a ≤ℤ b → b <ℤ c → a <ℤ c
≤-<-trans h k = nat_lt (omega (arith, le-nat h, lt-nat k))

pub <-≤-trans : {a b c : ℤ} → a <ℤ b → b ≤ℤ c → a <ℤ c
<-≤-trans h k = nat_lt (omega (arith, lt-nat h, le-nat k))

pub ≤-antisymm : {a b : ℤ} → a ≤ℤ b → b ≤ℤ a → a ≡ b
≤-antisymm {a} {b} h k = nat_eq a b (omega (arith, le-nat h, le-nat k))

pub <-to-≤ : {a b : ℤ} → a <ℤ b → a ≤ℤ b
<-to-≤ h = nat_le (omega (arith, lt-nat h))

le-or : (m n : ℕ) → (m ≤ n) ⊎ (n < m)
le-or m n = go (leb m n) (leb→le m n) (nleb→lt m n)
  where
    go : (b : Bool) → (T b → m ≤ n) → (T (not b) → n < m) → (m ≤ n) ⊎ (n < m)
    go true f g = inl (f tt)
    go false f g = inr (g tt)

pub ≤-or-> : (a b : ℤ) → (a ≤ℤ b) ⊎ (b <ℤ a)
≤-or-> a b = go (le-or (pos_part a + neg_part b) (pos_part b + neg_part a))
  where
    go : (pos_part a + neg_part b ≤ pos_part b + neg_part a) ⊎ (pos_part b + neg_part a < pos_part a + neg_part b) → (a ≤ℤ b) ⊎ (b <ℤ a)
    go (inl h) = inl (nat_le h)
    go (inr h) = inr (nat_lt h)

pub ≤-not-< : {a b : ℤ} → a ≤ℤ b → b <ℤ a → ⊥
≤-not-< h k = <ℤ_irrefl (≤-<-trans h k)

pub not-≤ : {a b : ℤ} → (a ≤ℤ b → ⊥) → b <ℤ a
not-≤ {a} {b} f = go (≤-or-> a b)
  where
    go : (a ≤ℤ b) ⊎ (b <ℤ a) → b <ℤ a
    go (inl h) = absurd (f h)
    go (inr h) = h

-- ---- natural numbers and literals
pub pos-≤ : {a b : ℕ} → a ≤ b → pos a ≤ℤ pos b
pos-≤ {a} {b} h = record { le = le→leb a b h }

pub pos-< : {a b : ℕ} → a < b → pos a <ℤ pos b
pos-< {a} {b} h = record { lt = lt→ltb a b h }

pub pos-<⁻ : {a b : ℕ} → pos a <ℤ pos b → a < b
pos-<⁻ {a} {b} h = ltb→lt a b h.lt

pub 0≤pos : {n : ℕ} → pos 0 ≤ℤ pos n
0≤pos {n} = pos-≤ {a = 0} {b = n} (omega arith)

-- two literals: `litℤ≤ tt`
pub litℤ≤ : {a b : ℤ} → T (le_z a b) → a ≤ℤ b
litℤ≤ t = le_z_yes t

-- ---- sums
pub +-mono : {a b c d : ℤ} → a ≤ℤ b → c ≤ℤ d → (a +ℤ c) ≤ℤ (b +ℤ d)
+-mono {a} {b} {c} {d} h k = nat_le (omega (arith, le-nat h, le-nat k, add_parts a c, add_parts b d))

pub sub-mono : {a b c d : ℤ} → a ≤ℤ b → d ≤ℤ c → (a -ℤ c) ≤ℤ (b -ℤ d)
sub-mono {a} {b} {c} {d} h k = nat_le (omega (arith, le-nat h, le-nat k, diff-parts a c, diff-parts b d))

-- an order says the sign of a difference, and back
sub-nonneg : {a b : ℤ} → a ≤ℤ b → pos 0 ≤ℤ (b -ℤ a)
sub-nonneg {a} {b} h = nat_le (omega (arith, le-nat h, diff-parts b a))

nonneg-sub : {a b : ℤ} → pos 0 ≤ℤ (b -ℤ a) → a ≤ℤ b
nonneg-sub {a} {b} h = nat_le (omega (arith, le-nat h, diff-parts b a))

sub-pos : {a b : ℤ} → a <ℤ b → pos 0 <ℤ (b -ℤ a)
sub-pos {a} {b} h = nat_lt (omega (arith, lt-nat h, diff-parts b a))

pos-sub : {a b : ℤ} → pos 0 <ℤ (b -ℤ a) → a <ℤ b
pos-sub {a} {b} h = nat_lt (omega (arith, lt-nat h, diff-parts b a))

-- ---- products
pub mul-nonneg : {a b : ℤ} → pos 0 ≤ℤ a → pos 0 ≤ℤ b → pos 0 ≤ℤ (a *ℤ b)
mul-nonneg {a = pos a} {b = pos b} h k = 0≤pos
mul-nonneg {a = pos a} {b = negsuc b} h k = absurd k.le
mul-nonneg {a = negsuc a} {b = b} h k = absurd h.le

pub mul-pos : {a b : ℤ} → pos 0 <ℤ a → pos 0 <ℤ b → pos 0 <ℤ (a *ℤ b)
mul-pos {a = pos a} {b = pos b} h k = pos-< (NatL.mul-pos (pos-<⁻ h) (pos-<⁻ k))
mul-pos {a = pos a} {b = negsuc b} h k = absurd k.lt
mul-pos {a = negsuc a} {b = b} h k = absurd h.lt

pub square-nonneg : (a : ℤ) → pos 0 ≤ℤ (a *ℤ a)
square-nonneg (pos a) = 0≤pos
square-nonneg (negsuc a) = 0≤pos

pub mul-mono-l : {a b : ℤ} (c : ℤ) → pos 0 ≤ℤ c → a ≤ℤ b → (c *ℤ a) ≤ℤ (c *ℤ b)
mul-mono-l {a} {b} c hc h = nonneg-sub (subst (λ (x : ℤ). pos 0 ≤ℤ x) (mul-sub c b a) (mul-nonneg hc (sub-nonneg h)))

-- a positive factor can be taken off
pub mul-cancel-≤ : {a b : ℤ} (c : ℤ) → pos 0 <ℤ c → (c *ℤ a) ≤ℤ (c *ℤ b) → a ≤ℤ b
mul-cancel-≤ {a} {b} c hc h = go (≤-or-> a b)
  where
    go : (a ≤ℤ b) ⊎ (b <ℤ a) → a ≤ℤ b
    go (inl k) = k
    go (inr k) = absurd (≤-not-< h (pos-sub (subst (λ (x : ℤ). pos 0 <ℤ x) (mul-sub c a b) (mul-pos hc (sub-pos k)))))

-- ---- which of two cases holds, of natural numbers
pub lt-or-le : (a b : ℕ) → (a < b) ⊎ (b ≤ a)
lt-or-le a b = elim (dec_lt a b) [ yes p ↦ inl p | no q ↦ inr (omega arith) ]

pub eq-or-ne : (a b : ℕ) → (a ≡ b) ⊎ (a ≡ b → ⊥)
eq-or-ne a b = elim (ℕ_discrete a b) [ yes p ↦ inl p | no q ↦ inr q ]
