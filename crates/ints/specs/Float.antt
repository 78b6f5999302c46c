-- Whole numbers as floats, so that code may compute with `f64` and lose nothing. `FloatOf f x z` says that x is the float of the format f
-- that stands for the integer z: what rounding ±|z| gives, so that x is `of_int f z`, or, where z is 0, perhaps -0 (0 * -3 is -0).
-- A sum, a difference and a product of two such floats of at most 2 ^ prec in size (2 ^ 53 in an `f64`) stands for the integers' sum,
-- difference and product, and a comparison is the integers'. `rep-computed`, of proofs/Float.antt, says the same of a whole expression.
-- Assumes nothing.
use Rattle.std.specs.Prelude.{◌≡◌, refl, Bool, true, false, not, cond, ◌&&◌, T, ltb, leb, Float}
use Rattle.std.proofs.Common.{sym, ◌∙◌, ap, ap₂, subst, subst₂, true≢false, le_trans, zero-lt-suc, arith, ltb→lt, nltb→le, lt→ltb, le→leb, leb→le}
use Prim.Native.Nat.{ℕ, zero, suc, ◌+◌, ◌-◌, ◌*◌, ◌/◌, ◌%◌, ◌^◌, ◌≤◌, ◌<◌, compare}
use Rattle.std.proofs.Math.Nat as NatL
use Rattle.std.proofs.Math.Dec.{leb-suc-suc}
use lib.IntN.{ℤ, pos, negsuc, neg_ℤ, nat_abs, ◌+ℤ◌, ◌-ℤ◌, ◌*ℤ◌, neg_ℤ-neg_ℤ}
use Rattle.std.specs.Int.Signed.{lt_z, mag}
use Rattle.std.specs.Float.Ieee
use Rattle.std.specs.Float.{nan, inf, fin, Format, binary64}
use Rattle.std.specs.Float.Ieee.{prec, emax, low, nearest, odd, units, up, down, round, sum, add, sub, mul, neg, unlike, below, of_int, in_float, in_signed, to_signed}
use Rattle.std.specs.Float.Ieee.Exact.{HasValue}
use Rattle.std.specs.Float.Ieee.Back.{round_whole, positive_back, negative_back}
use Rattle.std.specs.Float.Ieee.Fits.{down_pos}
use Rattle.std.specs.Float.Ieee.Scale.{round_same}
use Rattle.std.specs.Int.{Width}
use mir.Val.{hbits}
use Rattle.std.proofs.Math.Facts.{and_yes}
use Rattle.ints.specs.Ring.{neg-mul, mul-neg}
use Rattle.ints.specs.Order.{nat_eq, add_parts, pos_part-neg, neg_part-neg}
use Rattle.ints.specs.Bound.{abs_neg}
use Rattle.ints.specs.Computation.{Variable, Operations}
use Rattle.ints.specs.Machine.{read_back, read-bounded}

-- ±n, which is -n where the sign is set
abbrev pub with_sign : Bool → ℕ → ℤ
with_sign false n = pos n
with_sign true n = neg_ℤ (pos n)

pub record FloatOf (f : Format) (x : Float) (z : ℤ) : Type 0 where
  pub sign : Bool
  pub size : ℕ
  pub is : x ≡ round f sign size 1
  pub value : with_sign sign size ≡ z

-- ---- an integer as a float
pub rep-of_int : (f : Format) (z : ℤ) → FloatOf f (of_int f z) z
unfolding of_int
rep-of_int f (pos n) = record { sign = false; size = n; is = refl; value = refl }
rep-of_int f (negsuc n) = record { sign = true; size = suc n; is = refl; value = refl }

size_is : {f : Format} {x : Float} {z : ℤ} (r : FloatOf f x z) → nat_abs z ≡ r.size
size_is {z} r = ap nat_abs (sym r.value) ∙ go r.sign r.size
  where
    go : (s : Bool) (n : ℕ) → nat_abs (with_sign s n) ≡ n
    go false n = refl
    go true n = abs_neg (pos n)

-- its value, as the kit's laws of floats say it
has_value : {f : Format} {x : Float} {z : ℤ} (r : FloatOf f x z) → nat_abs z ≤ 2 ^ prec f → HasValue x r.sign r.size 1
has_value {f} {x} {z} r h =
    subst (λ (y : Float). HasValue y r.sign r.size 1) (sym r.is)
    (round_whole f r.sign r.size (subst (λ (n : ℕ). n ≤ 2 ^ prec f) (size_is r) h))

-- ---- rounding a whole number, written as a fraction
whole_same : (f : Format) (s : Bool) (num den n : ℕ) → 0 < den → num ≡ n * den → round f s num den ≡ round f s n 1
whole_same f s num den n d e = round_same f s num den n 1 d (zero-lt-suc 0) (NatL.mul-one num ∙ e)

-- two floats x / y and x' / y' that are worth a and b, over their common denominator
over-both : (x y x' y' a b : ℕ) → x * 1 ≡ a * y → x' * 1 ≡ b * y' → (x * y' ≡ a * (y * y')) × (x' * y ≡ b * (y * y'))
over-both x y x' y' a b h k = (omega (arith, ap (λ (z : ℕ). z * y') h), omega (arith, ap (λ (z : ℕ). z * y) k))

-- what has a value is finite: a law of two floats that are worth ±a and ±b is one of two finite ones
on-finite : (P : Float → Float → Type 0) (s t : Bool) (a b : ℕ)
    → ((m n : ℕ) (e d : ℤ) → m * up e * 1 ≡ a * down e → n * up d * 1 ≡ b * down d → P (fin s m e) (fin t n d))
    → (x y : Float) → HasValue x s a 1 → HasValue y t b 1 → P x y
on-finite P s t a b f nan y h k = absurd h
on-finite P s t a b f (inf u) y h k = absurd h
on-finite P s t a b f (fin u m e) nan h k = absurd k
on-finite P s t a b f (fin u m e) (inf r) h k = absurd k
on-finite P s t a b f (fin u m e) (fin r n d) h k =
    subst₂ (λ (i j : Bool). P (fin i m e) (fin j n d)) (sym h.0) (sym k.0) (f m n e d h.1 k.1)

-- ---- sums of fractions with the denominator c: the sign and the size of ±a ± b
neg-of-sub : (a b : ℕ) → a < b → with_sign true (b - a) ≡ pos a +ℤ neg_ℤ (pos b)
neg-of-sub a b h =
    nat_eq (with_sign true (b - a)) (pos a +ℤ neg_ℤ (pos b))
    (omega (arith, pos_part-neg (pos (b - a)), neg_part-neg (pos (b - a)), pos_part-neg (pos b), neg_part-neg (pos b), add_parts (pos a) (neg_ℤ (pos b))))

pos-of-sub : (a b : ℕ) → b ≤ a → with_sign false (a - b) ≡ pos a +ℤ neg_ℤ (pos b)
pos-of-sub a b h =
    nat_eq (with_sign false (a - b)) (pos a +ℤ neg_ℤ (pos b))
    (omega (arith, pos_part-neg (pos b), neg_part-neg (pos b), add_parts (pos a) (neg_ℤ (pos b))))

both-neg : (a b : ℕ) → with_sign true (a + b) ≡ neg_ℤ (pos a) +ℤ neg_ℤ (pos b)
both-neg a b = lib.IntN.neg_ℤ-+ℤ (pos a) (pos b)

-- a factor is taken off
cancel-< : (a b c : ℕ) → 0 < c → a * c < b * c → a < b
cancel-< a b c d h = NatL.lt_of_mul-lt-mul_right c h

cancel-≤ : (a b c : ℕ) → 0 < c → a * c ≤ b * c → a ≤ b
cancel-≤ a b c d h = NatL.le_of_mul-le-mul_right h d

sub-mul : (a b c : ℕ) → b * c - a * c ≡ (b - a) * c
sub-mul a b c = ap₂ (λ (x y : ℕ). x - y) (NatL.mul_comm b c) (NatL.mul_comm a c) ∙ sym (NatL.mul-sub c b a) ∙ NatL.mul_comm c (b - a)

-- with what is known of a zero: its sign is u
abbrev FloatOf₀ : Format → Float → ℤ → Bool → Type 0
FloatOf₀ f x z u = (r : FloatOf f x z) × (r.size ≡ 0 → r.sign ≡ u)

not-zero : (a b : ℕ) → a < b → b - a ≡ 0 → ⊥
not-zero a b h e = omega arith

sum-rep : (f : Format) (s t : Bool) (a b c : ℕ) → 0 < c → FloatOf₀ f (sum f s (a * c) t (b * c) c) (with_sign s a +ℤ with_sign t b) (s && t)
unfolding sum
sum-rep f false false a b c d =
    (record { sign = false; size = a + b; is = whole_same f false (a * c + b * c) c (a + b) d (omega arith); value = refl }, λ e. refl)
sum-rep f true true a b c d =
    (record { sign = true; size = a + b; is = whole_same f true (a * c + b * c) c (a + b) d (omega arith); value = both-neg a b }, λ e. refl)
sum-rep f false true a b c d = go (ltb (a * c) (b * c)) (ltb→lt (a * c) (b * c)) (nltb→le (a * c) (b * c))
  where
    go : (u : Bool) → (T u → a * c < b * c) → (T (not u) → b * c ≤ a * c) →
        FloatOf₀ f (cond u (round f true (b * c - a * c) c) (round f false (a * c - b * c) c)) (pos a +ℤ neg_ℤ (pos b)) false
    go true h g = (
      record {
        sign = true;
        size = b - a;
        is = whole_same f true (b * c - a * c) c (b - a) d (sub-mul a b c);
        value =
            neg-of-sub a b (cancel-< a b c d (h tt));
      },
      λ e. absurd (not-zero a b (cancel-< a b c d (h tt)) e),
    )
    go false h g = (
      record {
        sign = false;
        size = a - b;
        is = whole_same f false (a * c - b * c) c (a - b) d (sub-mul b a c);
        value =
            pos-of-sub a b (cancel-≤ b a c d (g tt));
      },
      λ e. refl,
    )
sum-rep f true false a b c d =
    go (ltb (a * c) (b * c)) (ltb→lt (a * c) (b * c)) (nltb→le (a * c) (b * c)) (ltb (b * c) (a * c)) (ltb→lt (b * c) (a * c))
    (nltb→le (b * c) (a * c))
  where
    flip : (a b : ℕ) {z : ℤ} → z ≡ pos b +ℤ neg_ℤ (pos a) → z ≡ neg_ℤ (pos a) +ℤ pos b
    flip a b e = e ∙ lib.IntN.+ℤ_comm (pos b) (neg_ℤ (pos a))

    none : (a b : ℕ) → a ≤ b → b ≤ a → pos 0 ≡ pos b +ℤ neg_ℤ (pos a)
    none a b h g = nat_eq (pos 0) (pos b +ℤ neg_ℤ (pos a)) (omega (arith, pos_part-neg (pos a), neg_part-neg (pos a), add_parts (pos b) (neg_ℤ (pos a))))

    zero-times : (a b c : ℕ) → a * c ≤ b * c → a * c - b * c ≡ 0 * c
    zero-times a b c h = omega arith

    go : (u : Bool) → (T u → a * c < b * c) → (T (not u) → b * c ≤ a * c) → (x : Bool) → (T x → b * c < a * c) → (T (not x) → a * c ≤ b * c)
        → FloatOf₀ f (cond u (round f false (b * c - a * c) c) (round f x (a * c - b * c) c)) (neg_ℤ (pos a) +ℤ pos b) false
    go true h g x i j = (
      record {
        sign = false;
        size = b - a;
        is = whole_same f false (b * c - a * c) c (b - a) d (sub-mul a b c);
        value =
            flip a b (pos-of-sub b a (cancel-≤ a b c d (NatL.le_of_lt (h tt))));
      },
      λ e. refl,
    )
    go false h g true i j = (
      record {
        sign = true;
        size = a - b;
        is = whole_same f true (a * c - b * c) c (a - b) d (sub-mul b a c);
        value =
            flip a b (neg-of-sub b a (cancel-< b a c d (i tt)));
      },
      λ e. absurd (not-zero b a (cancel-< b a c d (i tt)) e),
    )
    go false h g false i j = (
      record {
        sign = false;
        size = 0;
        is = whole_same f false (a * c - b * c) c 0 d (zero-times a b c (j tt));
        value =
            flip a b (none a b (cancel-≤ a b c d (j tt)) (cancel-≤ b a c d (g tt)));
      },
      λ e. refl,
    )

-- the sum of two floats that are worth ±a and ±b
add-worth : (f : Format) (x y : Float) (s t : Bool) (a b : ℕ) → HasValue x s a 1 → HasValue y t b 1 →
    FloatOf₀ f (add f x y) (with_sign s a +ℤ with_sign t b) (s && t)
unfolding add
add-worth f x y s t a b =
    on-finite (λ (x y : Float). FloatOf₀ f (add f x y) (with_sign s a +ℤ with_sign t b) (s && t)) s t a b
    (λ m n e d h k.
    let c = over-both (m * up e) (down e) (n * up d) (down d) a b h k in
    subst₂ (λ (i j : ℕ). FloatOf₀ f (sum f s i t j (down e * down d)) (with_sign s a +ℤ with_sign t b) (s && t)) (sym c.0) (sym c.1)
    (sum-rep f s t a b (down e * down d) (NatL.mul-pos (down_pos e) (down_pos d))))
    x y

-- the same integer, written otherwise
pub rep_at : {f : Format} {x : Float} {y z : ℤ} → y ≡ z → FloatOf f x y → FloatOf f x z
rep_at {f} {x} e r = subst (λ (w : ℤ). FloatOf f x w) e r

-- ---- the sum, the negation, the difference, the product
pub rep_add : {f : Format} {x y : Float} {a b : ℤ} → FloatOf f x a → FloatOf f y b → nat_abs a ≤ 2 ^ prec f → nat_abs b ≤ 2 ^ prec f →
    FloatOf f (add f x y) (a +ℤ b)
rep_add {f} {x} {y} {a} {b} r q h k =
    rep_at (ap₂ (λ (i j : ℤ). i +ℤ j) r.value q.value)
    (add-worth f x y r.sign q.sign r.size q.size (has_value r h) (has_value q k)).0

-- the sum of two integers' floats is the float of their sum, the zero's sign and all
plus-zero : {f : Format} {x : Float} (z : ℤ) (r : FloatOf f x z) → (r.size ≡ 0 → r.sign ≡ false) → x ≡ of_int f z
unfolding of_int
plus-zero {f} {x} z r h = r.is ∙ go r.sign r.size r.value h
  where
    go : (s : Bool) (n : ℕ) → with_sign s n ≡ z → (n ≡ 0 → s ≡ false) → round f s n 1 ≡ of_int f z
    go false n e h = ap (of_int f) e
    go true zero e h = absurd (true≢false (h refl))
    go true (suc n) e h = ap (of_int f) e

sign_of : ℤ → Bool
sign_of (pos n) = false
sign_of (negsuc n) = true

int-value : (f : Format) (z : ℤ) → nat_abs z ≤ 2 ^ prec f → HasValue (of_int f z) (sign_of z) (nat_abs z) 1
unfolding of_int sign_of
int-value f (pos n) h = round_whole f false n h
int-value f (negsuc n) h = round_whole f true (suc n) h

with_sign-of : (z : ℤ) → with_sign (sign_of z) (nat_abs z) ≡ z
unfolding sign_of
with_sign-of (pos n) = refl
with_sign-of (negsuc n) = refl

with_sign-zero : (s : Bool) (n : ℕ) → n ≡ 0 → with_sign s n ≡ pos 0
with_sign-zero false n e = ap pos e
with_sign-zero true n e = ap (λ (m : ℕ). neg_ℤ (pos m)) e

zero-sign : (a b : ℤ) → a +ℤ b ≡ pos 0 → (sign_of a && sign_of b) ≡ false
unfolding sign_of
zero-sign (pos a) b e = refl
zero-sign (negsuc a) (pos b) e = refl
zero-sign (negsuc a) (negsuc b) e = absurd (lib.IntN.pos-ne-negsuc 0 (suc (a + b)) (sym e))

pub of_int-add : (f : Format) (a b : ℤ) → nat_abs a ≤ 2 ^ prec f → nat_abs b ≤ 2 ^ prec f → add f (of_int f a) (of_int f b) ≡ of_int f (a +ℤ b)
of_int-add f a b h g =
    let w = add-worth f (of_int f a) (of_int f b) (sign_of a) (sign_of b) (nat_abs a) (nat_abs b) (int-value f a h) (int-value f b g) in
    let q : with_sign (sign_of a) (nat_abs a) +ℤ with_sign (sign_of b) (nat_abs b) ≡ a +ℤ b = ap₂ (λ (i j : ℤ). i +ℤ j) (with_sign-of a) (with_sign-of b) in
    plus-zero (with_sign (sign_of a) (nat_abs a) +ℤ with_sign (sign_of b) (nat_abs b)) w.0
    (λ e. w.1 e ∙ zero-sign a b (sym q ∙ sym w.0.value ∙ with_sign-zero w.0.sign w.0.size e))
    ∙ ap (of_int f) q

-- rounding is the same for both signs
neg-round : (f : Format) (s : Bool) (num den : ℕ) → neg (round f s num den) ≡ round f (not s) num den
unfolding neg round units odd
neg-round f s num den =
    go-units
    (nearest (num * 2 ^ low f / (den * 2 ^ (Ieee.size (num * 2 ^ low f / den) - prec f)))
    (compare (num * 2 ^ low f % (den * 2 ^ (Ieee.size (num * 2 ^ low f / den) - prec f)) * 2)
    (den * 2 ^ (Ieee.size (num * 2 ^ low f / den) - prec f)))) (Ieee.size (num * 2 ^ low f / den) - prec f)
  where
    go-odd : (d q k l : ℕ) → neg (odd d s q k l) ≡ odd d (not s) q k l
    go-odd d zero k l = refl
    go-odd d (suc q) k l = refl

    go-units : (q k : ℕ) → neg (units f s q k) ≡ units f (not s) q k
    go-units q k = pick (ltb (q * 2 ^ k) (2 ^ (low f + suc (emax f))))
      where
        pick : (b : Bool) → neg (cond b (odd (suc (prec f)) s q k (low f)) (inf s)) ≡ cond b (odd (suc (prec f)) (not s) q k (low f)) (inf (not s))
        pick true = go-odd (suc (prec f)) q k (low f)
        pick false = refl

with_sign-not : (s : Bool) (n : ℕ) → with_sign (not s) n ≡ neg_ℤ (with_sign s n)
with_sign-not false n = refl
with_sign-not true n = sym (neg_ℤ-neg_ℤ (pos n))

pub rep_neg : {f : Format} {x : Float} {a : ℤ} → FloatOf f x a → FloatOf f (neg x) (neg_ℤ a)
rep_neg {f} {x} {a} r =
    record {
      sign = not r.sign;
      size = r.size;
      is = ap neg r.is ∙ neg-round f r.sign r.size 1;
      value =
          with_sign-not r.sign r.size ∙ ap neg_ℤ r.value;
    }

pub rep-sub : {f : Format} {x y : Float} {a b : ℤ} → FloatOf f x a → FloatOf f y b → nat_abs a ≤ 2 ^ prec f → nat_abs b ≤ 2 ^ prec f →
    FloatOf f (sub f x y) (a -ℤ b)
unfolding sub
rep-sub {f} {x} {y} {a} {b} r q h k = rep_add r (rep_neg q) h (subst (λ (n : ℕ). n ≤ 2 ^ prec f) (sym (abs_neg b)) k)

-- the product of m = a * c and n = b * d
mul-fractions : (m n a b c d : ℕ) → m * 1 ≡ a * c → n * 1 ≡ b * d → m * n ≡ a * b * (c * d)
mul-fractions m n a b c d h k = ap₂ (λ (x y : ℕ). x * y) (sym (NatL.mul-one m) ∙ h) (sym (NatL.mul-one n) ∙ k) ∙ NatL.mul-mul-mul_comm a c b d

with_sign-mul : (s t : Bool) (a b : ℕ) → with_sign (unlike s t) (a * b) ≡ with_sign s a *ℤ with_sign t b
with_sign-mul false false a b = refl
with_sign-mul false true a b = sym (mul-neg (pos a) (pos b))
with_sign-mul true false a b = sym (neg-mul (pos a) (pos b))
with_sign-mul true true a b = sym (neg-mul (pos a) (neg_ℤ (pos b)) ∙ ap neg_ℤ (mul-neg (pos a) (pos b)) ∙ neg_ℤ-neg_ℤ (pos (a * b)))

mul-worth : (f : Format) (x y : Float) (s t : Bool) (a b : ℕ) → HasValue x s a 1 → HasValue y t b 1 →
    FloatOf f (mul f x y) (with_sign s a *ℤ with_sign t b)
unfolding mul
mul-worth f x y s t a b =
    on-finite (λ (x y : Float). FloatOf f (mul f x y) (with_sign s a *ℤ with_sign t b)) s t a b
    (λ m n e d h k.
    record {
      sign = unlike s t;
      size = a * b;
      is =
          whole_same f (unlike s t) (m * up e * (n * up d)) (down e * down d) (a * b) (NatL.mul-pos (down_pos e) (down_pos d))
          (mul-fractions (m * up e) (n * up d) a b (down e) (down d) h k);
      value = with_sign-mul s t a b;
    })
    x y

pub rep_mul : {f : Format} {x y : Float} {a b : ℤ} → FloatOf f x a → FloatOf f y b → nat_abs a ≤ 2 ^ prec f → nat_abs b ≤ 2 ^ prec f →
    FloatOf f (mul f x y) (a *ℤ b)
rep_mul {f} {x} {y} {a} {b} r q h k =
    rep_at (ap₂ (λ (i j : ℤ). i *ℤ j) r.value q.value) (mul-worth f x y r.sign q.sign r.size q.size (has_value r h) (has_value q k))

-- ---- comparisons
-- two flags that say the same
same_bool : (p q : Bool) → (T p → T q) → (T q → T p) → p ≡ q
same_bool true true f g = refl
same_bool true false f g = absurd (f tt)
same_bool false true f g = absurd (g tt)
same_bool false false f g = refl

scale-< : (a b c : ℕ) → 0 < c → a < b → a * c < b * c
scale-< a b c d h = NatL.mul-lt-mul_of_pos_right h d

ltb-scaled : (a b c : ℕ) → 0 < c → ltb (a * c) (b * c) ≡ ltb a b
ltb-scaled a b c d =
    same_bool (ltb (a * c) (b * c)) (ltb a b)
    (λ t. lt→ltb a b (cancel-< a b c d (ltb→lt (a * c) (b * c) t)))
    (λ t. lt→ltb (a * c) (b * c) (scale-< a b c d (ltb→lt a b t)))

-- the kit's order of ±a * c and ±b * c is that of the integers ±a and ±b
below_is : (s t : Bool) (a b c : ℕ) → 0 < c → below s (a * c) t (b * c) ≡ lt_z (with_sign s a) (with_sign t b)
below_is false false a b c d = ltb-scaled a b c d
below_is false true a zero c d = same_bool false (ltb a 0) (λ e. absurd e) (λ e. absurd (NatL.not-suc-le-zero (ltb→lt a 0 e)))
below_is false true a (suc b) c d = refl
below_is true false zero b c d =
    same_bool (ltb 0 (0 * c + b * c)) (ltb 0 b)
    (λ e. lt→ltb 0 b (cancel-< 0 b c d (omega (arith, ltb→lt 0 (0 * c + b * c) e))))
    (λ e. lt→ltb 0 (0 * c + b * c) (omega (arith, scale-< 0 b c d (ltb→lt 0 b e))))
below_is true false (suc a) b c d =
    same_bool (ltb 0 (suc a * c + b * c)) true (λ e. tt) (λ e. lt→ltb 0 (suc a * c + b * c) (omega (arith, scale-< 0 (suc a) c d (zero-lt-suc a))))
below_is true true zero zero c d = ltb-scaled 0 0 c d
below_is true true zero (suc b) c d =
    ltb-scaled (suc b) 0 c d ∙ same_bool (ltb (suc b) 0) false (λ e. absurd (NatL.not-suc-le-zero (ltb→lt (suc b) 0 e))) (λ e. absurd e)
below_is true true (suc a) zero c d = ltb-scaled 0 (suc a) c d ∙ same_bool (ltb 0 (suc a)) true (λ e. tt) (λ e. lt→ltb 0 (suc a) (zero-lt-suc a))
below_is true true (suc a) (suc b) c d = ltb-scaled (suc b) (suc a) c d ∙ leb-suc-suc (suc b) a

lt-worth : (x y : Float) (s t : Bool) (a b : ℕ) → HasValue x s a 1 → HasValue y t b 1 → Ieee.lt x y ≡ lt_z (with_sign s a) (with_sign t b)
unfolding Ieee.lt
lt-worth x y s t a b =
    on-finite (λ (x y : Float). Ieee.lt x y ≡ lt_z (with_sign s a) (with_sign t b)) s t a b
    (λ m n e d h k.
    let c = over-both (m * up e) (down e) (n * up d) (down d) a b h k in
    ap₂ (λ (i j : ℕ). below s i t j) c.0 c.1 ∙ below_is s t a b (down e * down d) (NatL.mul-pos (down_pos e) (down_pos d)))
    x y

-- `x < y` of two floats that stand for integers is the integers' order
pub rep-lt : {f : Format} {x y : Float} {a b : ℤ} → FloatOf f x a → FloatOf f y b → nat_abs a ≤ 2 ^ prec f → nat_abs b ≤ 2 ^ prec f →
    Ieee.lt x y ≡ lt_z a b
rep-lt {f} {x} {y} {a} {b} r q h k =
    lt-worth x y r.sign q.sign r.size q.size (has_value r h) (has_value q k) ∙ ap₂ lt_z r.value q.value

-- ---- casts: an integer as a float
in-float : (f : Format) (z : ℤ) → nat_abs z ≤ 2 ^ prec f → T (in_float f z)
unfolding in_float
in-float f (pos n) h = le→leb n (2 ^ prec f) h
in-float f (negsuc n) h = lt→ltb n (2 ^ prec f) h

-- `int-to-float-..` of a signed number: `float-need binary64 w64 z B h tt`
pub float-need : (f : Format) (w : Width) (z : ℤ) (B : ℕ) → nat_abs z ≤ B → T (ltb B (2 ^ hbits w) && leb B (2 ^ prec f)) →
    T (in_float f (read_back w z))
float-need f w z B h t =
    let both = and_yes (ltb B (2 ^ hbits w)) (leb B (2 ^ prec f)) t in
    subst (λ (i : ℤ). T (in_float f i)) (sym (read-bounded w B h both.0)) (in-float f z (le_trans h (leb→le B (2 ^ prec f) both.1)))

-- a float as a signed integer of h bits and a sign: what the cast asks, and the number that it gives
pub float_back : (f : Format) (h : ℕ) (z : ℤ) → nat_abs z ≤ 2 ^ prec f → mag z < 2 ^ h → T (in_signed f h (of_int f z)) × (to_signed h (of_int f z) ≡ z)
float_back f h (pos n) p q = positive_back f h n (in-float f (pos n) p) q
float_back f h (negsuc n) p q = negative_back f h n (in-float f (negsuc n) p) q

-- ---- an expression, computed with floats: it is exact where every part is at most 2 ^ prec in size by the variables' bounds
abbrev pub FloatCell : Format → Type 0
FloatCell f = Variable Float (λ x z. FloatOf f x z)

-- a float that is known to stand for z
abbrev pub known_float : {f : Format} (x : Float) (z : ℤ) (B : ℕ) → FloatOf f x z → nat_abs z ≤ B → FloatCell f
known_float x z B r h = record { has = x; is = z; bound = B; same = r; small = h }

-- a signed number that was cast: `signed_float binary64 w64 z B h tt`
abbrev pub signed_float : (f : Format) (w : Width) (z : ℤ) (B : ℕ) → nat_abs z ≤ B → T (ltb B (2 ^ hbits w)) → FloatCell f
signed_float f w z B h t = known_float (of_int f (read_back w z)) z B (rep_at (read-bounded w B h t) (rep-of_int f (read_back w z))) h

-- an unsigned number that was cast: `unsigned_float binary64 n B h`
abbrev pub unsigned_float : (f : Format) (n B : ℕ) → n ≤ B → FloatCell f
unsigned_float f n B h = known_float (of_int f (pos n)) (pos n) B (rep-of_int f (pos n)) h

abbrev pub float_ops : Format → Operations Float
float_ops f = record { literal = of_int f; plus = add f; minus = sub f; times = mul f; negate = neg }

-- ---- literals of the code, by their bits. For another one: `rep-bits binary64 bits z refl` under the `unfolding` line of `rep-two`
pub rep-bits : (f : Format) (b : ℕ) (z : ℤ) → Ieee.of_bits f b ≡ of_int f z → FloatOf f (Ieee.of_bits f b) z
rep-bits f b z e = subst (λ (x : Float). FloatOf f x z) (sym e) (rep-of_int f z)

pub rep_zero : FloatOf binary64 (Ieee.of_bits binary64 0) (pos 0)
unfolding Ieee.of_bits Ieee.of_fields Ieee.odd Ieee.round Ieee.units Ieee.size Ieee.span Ieee.climb lib.Count.count_trailing_zeros of_int
rep_zero = rep-bits binary64 0 (pos 0) refl

pub rep-two : FloatOf binary64 (Ieee.of_bits binary64 4611686018427387904) (pos 2)
unfolding Ieee.of_bits Ieee.of_fields Ieee.odd Ieee.round Ieee.units Ieee.size Ieee.span Ieee.climb lib.Count.count_trailing_zeros of_int
rep-two = rep-bits binary64 4611686018427387904 (pos 2) refl
