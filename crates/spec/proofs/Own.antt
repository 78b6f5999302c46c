-- The frame's own weights and the weights that are counted with: hollow windows, which kind 2 has none of, nor kind 1 with the built-in weights.
-- Assumes nothing.
use mathlib.Core.Path.{◌≡◌, refl, sym, ap, ap₂, ◌∙◌, subst}
use mathlib.Core.Bool.{Bool, true, false, true≢false, not, ◌&&◌, ◌||◌}
use mathlib.Core.Logic.{◌⊎◌, inl, inr}
use Prim.Native.Nat.{ℕ, ◌+◌, ◌-◌, ◌*◌, ◌≤◌, ◌<◌}
use native.Mathlib.Nat.{zero-mul}
use native.Mathlib.Omega.{arith}
use lib.Dec.{leb, eqb}
use lib.IntN.{ℤ, pos, negsuc, neg_ℤ, ◌+ℤ◌, ◌-ℤ◌, ◌*ℤ◌, *ℤ-zero}
use lib.Signed.{◌≤ℤ◌, ◌<ℤ◌, non_neg, ≤ℤ_refl, clash_ℤ}
use borrow.Author.Tests.{eq-eqb, ne_eqb, eqb-true, eqb-false}
use Rattle.ints.specs.Order.{add_parts, ≤-or->, <-to-≤, ≤-of-eq, ≤-antisymm, mul-pos, mul-cancel-≤, square-nonneg, 0≤pos, pos-<}
use Rattle.ints.specs.Linear.{ints}
use Rattle.ints.specs.Ring.{mul-one}
use Rattle.ints.specs.Polynomial.{◌⊕◌, ◌⊖◌, ◌⊗◌, opposite, #◌, ◌≐◌, solve3, solve4, solve5}
use Rattle.std.specs.Prelude.{if◌then◌else◌}
use Rattle.spec.specs.declared.Settings.{Settings}
use Rattle.spec.specs.Frame.{Frame, level, dead, guide, table}
use Rattle.spec.specs.Window.{Σ, Σℤ, pixel_count, empty, guide_sum, square_sum, InWindow}
use Rattle.spec.specs.Weight.{
  scaled_variance,
  guided_weight,
  own_weight,
  own_total,
  is_zero,
  weightless,
  weight,
  monotone,
  variance,
  deviation,
  slope,
  offset,
}
use Rattle.spec.specs.Median.{total_weight, cumulative, balance, NoneNegative}
use Rattle.spec.proofs.Ranges.{nat_sums, int_sums}
use Rattle.spec.proofs.Checks.{both}
use Rattle.spec.proofs.Sums.{
  over-in_window,
  over_add,
  over-scale,
  over-pos,
  over-nonneg,
  over-term,
  over-termℤ,
  over-constantℤ,
  over_none,
  over-empty,
}
use Rattle.spec.specs.Checks.{SettingsLimits}
use Rattle.spec.proofs.Limits.{FrameLimits, Pixel}

-- ---- the weight that is counted with
pub weight-own : (p : Frame) (s t g : ℕ) → weightless p s t ≡ false → weight p s t g ≡ own_weight p s t g
unfolding weight
weight-own p s t g e = rw e refl

pub weight-one : (p : Frame) (s t g : ℕ) → weightless p s t ≡ true → weight p s t g ≡ pos 1
unfolding weight
weight-one p s t g e = rw e refl

-- document 02: a hollow window counts as steady
pub weightless-monotone : (p : Frame) (s t : ℕ) → weightless p s t ≡ true → monotone p s t ≡ true
unfolding monotone
weightless-monotone p s t e = rw (weight-one p s t 0 e, weight-one p s t (p.set.guides - 1) e) (either (eqb p.set.kind 1))
  where
    either : (b : Bool) → (b || true) ≡ true
    either true = refl
    either false = refl

-- T, by either
pub total-own : (p : Frame) (s t : ℕ) → weightless p s t ≡ false → total_weight p s t ≡ own_total p s t
unfolding total_weight own_total
total-own p s t e = over-in_window ◌+ℤ◌ (pos 0) int_sums p s t _ _ (λ x y h. weight-own p s t (guide p x y) e)

pub total-one : (p : Frame) (s t : ℕ) → weightless p s t ≡ true → total_weight p s t ≡ pos (pixel_count p s t)
unfolding total_weight
total-one p s t e =
    over-in_window ◌+ℤ◌ (pos 0) int_sums p s t _ _ (λ x y h. weight-one p s t (guide p x y) e) ∙ over-constantℤ p s t (pos 1)
    ∙ mul-one (pos (pixel_count p s t))

-- U of a hollow window is a number of pixels
pub cumulative-one : (p : Frame) (s t i : ℕ) → weightless p s t ≡ true
    → cumulative p s t i ≡ pos (Σ p s t (λ x y. if leb (level p x y) i then 1 else 0))
unfolding cumulative
cumulative-one p s t i e =
    over-in_window ◌+ℤ◌ (pos 0) int_sums p s t _ _ (λ x y h. one (leb (level p x y) i) (weight-one p s t (guide p x y) e))
    ∙ over-pos p s t (λ x y. if leb (level p x y) i then 1 else 0)
  where
    one : (b : Bool) {w : ℤ} → w ≡ pos 1 → (if b then w else pos 0) ≡ pos (if b then 1 else 0)
    one true q = q
    one false q = refl

-- ---- hollow exactly if there is a reading and the own weights sum to 0
pub zero_is : (z : ℤ) → is_zero z ≡ true → z ≡ pos 0
unfolding is_zero
zero_is (pos n) e = ap pos (eqb-true n 0 e)
zero_is (negsuc n) e = absurd (true≢false (sym e))

pub is-zero : (z : ℤ) → z ≡ pos 0 → is_zero z ≡ true
unfolding is_zero
is-zero z e = rw e refl

pub not-zero : (z : ℤ) → (z ≡ pos 0 → ⊥) → is_zero z ≡ false
not-zero z n = go (is_zero z) refl
  where
    go : (b : Bool) → is_zero z ≡ b → b ≡ false
    go true e = absurd (n (zero_is z e))
    go false e = refl

pub weightless-total : (p : Frame) (s t : ℕ) → weightless p s t ≡ true → own_total p s t ≡ pos 0
unfolding weightless
weightless-total p s t e = zero_is (own_total p s t) (both (not (empty p s t)) (is_zero (own_total p s t)) e).1

pub weightless-read : (p : Frame) (s t : ℕ) → weightless p s t ≡ true → empty p s t ≡ false
unfolding weightless
weightless-read p s t e = not-true (empty p s t) (both (not (empty p s t)) (is_zero (own_total p s t)) e).0
  where
    not-true : (b : Bool) → not b ≡ true → b ≡ false
    not-true true h = absurd (true≢false (sym h))
    not-true false h = refl

pub total-weightless : (p : Frame) (s t : ℕ) → empty p s t ≡ false → own_total p s t ≡ pos 0 → weightless p s t ≡ true
unfolding weightless
total-weightless p s t r e = rw (r, is-zero (own_total p s t) e) refl

pub empty-weighs : (p : Frame) (s t : ℕ) → empty p s t ≡ true → weightless p s t ≡ false
unfolding weightless
empty-weighs p s t e = rw e refl

pub total-weighs : (p : Frame) (s t : ℕ) → (own_total p s t ≡ pos 0 → ⊥) → weightless p s t ≡ false
unfolding weightless
total-weighs p s t n = rw (not-zero (own_total p s t) n) (go (not (empty p s t)))
  where
    go : (b : Bool) → (b && false) ≡ false
    go true = refl
    go false = refl

pub pos-weighs : (p : Frame) (s t : ℕ) → pos 0 <ℤ own_total p s t → weightless p s t ≡ false
pos-weighs p s t h = total-weighs p s t (λ e. clash_ℤ h (≤-of-eq e))

-- where no own weight is negative, all of a hollow window's are 0
pub weightless-zero : (p : Frame) (s t : ℕ) → NoneNegative p s t → weightless p s t ≡ true
    → (x y : ℕ) → InWindow p s t x y → own_weight p s t (guide p x y) ≡ pos 0
unfolding own_total
weightless-zero p s t light e x y h =
    ≤-antisymm
    (subst (λ (z : ℤ). own_weight p s t (guide p x y) ≤ℤ z) (weightless-total p s t e)
    (over-termℤ p s t (λ u v. own_weight p s t (guide p u v)) light x y h)) (light x y h)

-- ---- a window with a reading, and one without
pub pixel_count-low : (p : Frame) (s t : ℕ) → empty p s t ≡ false → 1 ≤ pixel_count p s t
unfolding empty
pixel_count-low p s t e = let n : pixel_count p s t ≡ 0 → ⊥ = eqb-false (pixel_count p s t) 0 e in omega (arith, n)

pub empty-count : (p : Frame) (s t : ℕ) → empty p s t ≡ true → pixel_count p s t ≡ 0
unfolding empty
empty-count p s t e = eqb-true (pixel_count p s t) 0 e

pub count-empty : (p : Frame) (s t : ℕ) → pixel_count p s t ≡ 0 → empty p s t ≡ true
unfolding empty
count-empty p s t e = eq-eqb (pixel_count p s t) 0 e

pub count-read : (p : Frame) (s t : ℕ) → 0 < pixel_count p s t → empty p s t ≡ false
unfolding empty
count-read p s t h = ne_eqb (pixel_count p s t) 0 (λ e. omega arith)

empty-guides : (p : Frame) (s t : ℕ) → empty p s t ≡ true → guide_sum p s t ≡ 0
unfolding guide_sum
empty-guides p s t e = over-empty p s t ◌+◌ 0 nat_sums (guide p) (empty-count p s t e)

pub total-empty : (p : Frame) (s t : ℕ) → empty p s t ≡ true → total_weight p s t ≡ pos 0
unfolding total_weight
total-empty p s t e = over-empty p s t ◌+ℤ◌ (pos 0) int_sums _ (empty-count p s t e)

pub cumulative-empty : (p : Frame) (s t i : ℕ) → empty p s t ≡ true → cumulative p s t i ≡ pos 0
unfolding cumulative
cumulative-empty p s t i e = over-empty p s t ◌+ℤ◌ (pos 0) int_sums _ (empty-count p s t e)

pub balance-empty : (p : Frame) (s t i : ℕ) → empty p s t ≡ true → balance p s t i ≡ pos 0
unfolding balance
balance-empty p s t i e = ap₂ (λ (u v : ℤ). pos 2 *ℤ u -ℤ v) (cumulative-empty p s t i e) (total-empty p s t e)

-- ---- kind 1: the table's weights, none negative
pub own-table : (p : Frame) (s t g : ℕ) → p.set.kind ≡ 1 → own_weight p s t g ≡ pos (table p (guide p s t) g)
unfolding own_weight
own-table p s t g e = rw (eq-eqb p.set.kind 1 e) refl

pub table-light : (p : Frame) (s t : ℕ) → p.set.kind ≡ 1 → NoneNegative p s t
table-light p s t e x y h = subst (λ (z : ℤ). pos 0 ≤ℤ z) (sym (own-table p s t (guide p x y) e)) 0≤pos

no-pixel : (p : Frame) (s t : ℕ) → ((x y : ℕ) → InWindow p s t x y → ⊥) → pixel_count p s t ≡ 0
unfolding pixel_count
no-pixel p s t q = over-in_window ◌+◌ 0 nat_sums p s t (λ x y. 1) (λ x y. 0) (λ x y h. absurd (q x y h)) ∙ over_none ◌+◌ 0 nat_sums p s t

-- a table in which every guide weighs something, as in the built-in one
pub table-weighs : (p : Frame) (s t : ℕ) → p.set.kind ≡ 1
    → ((x y : ℕ) → InWindow p s t x y → 0 < table p (guide p s t) (guide p x y)) → weightless p s t ≡ false
table-weighs p s t e h = go (weightless p s t) refl
  where
    none : weightless p s t ≡ true → (x y : ℕ) → InWindow p s t x y → ⊥
    none d x y q =
        let z : pos (table p (guide p s t) (guide p x y)) ≡ pos 0 =
        sym (own-table p s t (guide p x y) e) ∙ weightless-zero p s t (table-light p s t e) d x y q in
        clash_ℤ (pos-< (h x y q)) (≤-of-eq z)

    go : (b : Bool) → weightless p s t ≡ b → b ≡ false
    go false d = refl
    go true d =
        absurd (native.Mathlib.Nat.lt_irrefl 0
        (subst (λ (n : ℕ). 0 < n) (no-pixel p s t (none d)) (pixel_count-low p s t (weightless-read p s t d))))

-- the weight that is counted with is a natural number: the table's, or 1
unfoldable pub table_weight : Frame → ℕ → ℕ → ℕ → ℕ
table_weight p s t g = if weightless p s t then 1 else table p (guide p s t) g

pub weight-table : (p : Frame) (s t g : ℕ) → p.set.kind ≡ 1 → weight p s t g ≡ pos (table_weight p s t g)
unfolding table_weight
weight-table p s t g e = go (weightless p s t) refl
  where
    go : (b : Bool) → weightless p s t ≡ b → weight p s t g ≡ pos (if b then 1 else table p (guide p s t) g)
    go true h = weight-one p s t g h
    go false h = weight-own p s t g h ∙ own-table p s t g e

pub table_weight-high : (p : Frame) (s t g n : ℕ) → 1 ≤ n → table p (guide p s t) g ≤ n → table_weight p s t g ≤ n
unfolding table_weight
table_weight-high p s t g n one h = go (weightless p s t)
  where
    go : (b : Bool) → (if b then 1 else table p (guide p s t) g) ≤ n
    go true = one
    go false = h

-- ---- kind 2: linear in the guide, and the sum is n·V
pub own-guided : (p : Frame) (s t g : ℕ) → p.set.kind ≡ 2
    → own_weight p s t g ≡ guided_weight (pixel_count p s t) (guide_sum p s t) (square_sum p s t) p.set.smoothing (guide p s t) g
unfolding own_weight
own-guided p s t g e = rw (ne_eqb p.set.kind 1 (λ d. omega arith)) refl

own-linear : (p : Frame) (s t g : ℕ) → p.set.kind ≡ 2 → own_weight p s t g ≡ slope p s t *ℤ pos g +ℤ offset p s t
unfolding guided_weight variance deviation slope offset
own-linear p s t g e =
    own-guided p s t g e
    ∙ solve5 (λ v a n x u. v ⊕ a ⊗ (n ⊗ x ⊖ u) ≐ (n ⊗ a) ⊗ x ⊕ (v ⊖ u ⊗ a)) refl (variance p s t) (deviation p s t) (pos (pixel_count p s t)) (pos g)
    (pos (guide_sum p s t))

own-total-guided : (p : Frame) (s t : ℕ) → p.set.kind ≡ 2 → own_total p s t ≡ pos (pixel_count p s t) *ℤ variance p s t
unfolding own_total slope offset guide_sum
own-total-guided p s t e =
    over-in_window ◌+ℤ◌ (pos 0) int_sums p s t _ _ (λ x y h. own-linear p s t (guide p x y) e)
    ∙ over_add p s t (λ x y. slope p s t *ℤ pos (guide p x y)) (λ x y. offset p s t)
    ∙ ap₂ (λ (x y : ℤ). x +ℤ y)
    (over-scale p s t (slope p s t) (λ x y. pos (guide p x y)) ∙ ap (λ (q : ℤ). slope p s t *ℤ q) (over-pos p s t (guide p)))
    (over-constantℤ p s t (offset p s t))
    ∙ solve4 (λ n a u v. (n ⊗ a) ⊗ u ⊕ n ⊗ (v ⊖ u ⊗ a) ≐ n ⊗ v) refl (pos (pixel_count p s t)) (deviation p s t) (pos (guide_sum p s t))
    (variance p s t)

-- n·Q is at least S²
squares : (p : Frame) (s t : ℕ)
    →
    Σℤ p s t
    (λ x y. (pos (pixel_count p s t) *ℤ pos (guide p x y) -ℤ pos (guide_sum p s t)) *ℤ
    (pos (pixel_count p s t) *ℤ pos (guide p x y) -ℤ pos (guide_sum p s t)))
    ≡ pos (pixel_count p s t) *ℤ (pos (pixel_count p s t) *ℤ pos (square_sum p s t) -ℤ pos (guide_sum p s t) *ℤ pos (guide_sum p s t))
unfolding guide_sum square_sum
squares p s t =
    let n = pos (pixel_count p s t) in
    let u = pos (guide_sum p s t) in
    over-in_window ◌+ℤ◌ (pos 0) int_sums p s t _ _
    (λ x y h. solve3 (λ n u g. (n ⊗ g ⊖ u) ⊗ (n ⊗ g ⊖ u) ≐ ((n ⊗ n) ⊗ (g ⊗ g) ⊕ opposite (# 2 ⊗ n ⊗ u) ⊗ g) ⊕ u ⊗ u) refl n u (pos (guide p x y)))
    ∙ over_add p s t (λ x y. (n *ℤ n) *ℤ (pos (guide p x y) *ℤ pos (guide p x y)) +ℤ neg_ℤ (pos 2 *ℤ n *ℤ u) *ℤ pos (guide p x y)) (λ x y. u *ℤ u)
    ∙ ap₂ (λ (x y : ℤ). x +ℤ y)
    (over_add p s t (λ x y. (n *ℤ n) *ℤ (pos (guide p x y) *ℤ pos (guide p x y))) (λ x y. neg_ℤ (pos 2 *ℤ n *ℤ u) *ℤ pos (guide p x y))
    ∙ ap₂ (λ (x y : ℤ). x +ℤ y)
    (over-scale p s t (n *ℤ n) (λ x y. pos (guide p x y) *ℤ pos (guide p x y)) ∙ ap (λ (q : ℤ). (n *ℤ n) *ℤ q)
    (over-pos p s t (λ x y. guide p x y * guide p x y)))
    (over-scale p s t (neg_ℤ (pos 2 *ℤ n *ℤ u)) (λ x y. pos (guide p x y)) ∙ ap (λ (q : ℤ). neg_ℤ (pos 2 *ℤ n *ℤ u) *ℤ q) (over-pos p s t (guide p))))
    (over-constantℤ p s t (u *ℤ u))
    ∙ solve3 (λ n u q. ((n ⊗ n) ⊗ q ⊕ opposite (# 2 ⊗ n ⊗ u) ⊗ u) ⊕ n ⊗ (u ⊗ u) ≐ n ⊗ (n ⊗ q ⊖ u ⊗ u)) refl n u (pos (square_sum p s t))

pub variance-low : (p : Frame) (s t : ℕ) → pos 0 ≤ℤ (pos (pixel_count p s t * square_sum p s t) -ℤ pos (guide_sum p s t * guide_sum p s t))
variance-low p s t = go (empty p s t) refl
  where
    go : (b : Bool) → empty p s t ≡ b → pos 0 ≤ℤ (pos (pixel_count p s t * square_sum p s t) -ℤ pos (guide_sum p s t * guide_sum p s t))
    go true e = rw (empty-count p s t e, empty-guides p s t e, zero-mul (square_sum p s t)) (≤ℤ_refl (pos 0))
    go false e =
        mul-cancel-≤ (pos (pixel_count p s t)) (pos-< (pixel_count-low p s t e))
        (subst
        (λ (x : ℤ). x ≤ℤ
        (pos (pixel_count p s t) *ℤ (pos (pixel_count p s t) *ℤ pos (square_sum p s t) -ℤ pos (guide_sum p s t) *ℤ pos (guide_sum p s t))))
        (sym (*ℤ-zero (pos (pixel_count p s t))))
        (subst (λ (x : ℤ). pos 0 ≤ℤ x) (squares p s t)
        (over-nonneg p s t _ (λ x y h. square-nonneg (pos (pixel_count p s t) *ℤ pos (guide p x y) -ℤ pos (guide_sum p s t))))))

-- V is never negative, and above 0 where there is a reading
pub variance-nonneg : (p : Frame) (s t : ℕ) → pos 0 ≤ℤ variance p s t
unfolding variance scaled_variance
variance-nonneg p s t =
    let low = variance-low p s t in
    let n = pixel_count p s t in
    let h : pos 0 ≤ℤ pos (n * n * p.set.smoothing) = 0≤pos in
    omega (arith, ints, add_parts (pos (n * square_sum p s t) -ℤ pos (guide_sum p s t * guide_sum p s t)) (pos (n * n * p.set.smoothing)))

pub variance-pos : (p : Frame) (s t : ℕ) → empty p s t ≡ false → 1 ≤ p.set.smoothing → pos 0 <ℤ variance p s t
unfolding variance scaled_variance
variance-pos p s t r e =
    let low = variance-low p s t in
    let n = pixel_count p s t in
    let h : pos 0 <ℤ (pos n *ℤ pos n *ℤ pos p.set.smoothing) =
    mul-pos (mul-pos (pos-< (pixel_count-low p s t r)) (pos-< (pixel_count-low p s t r))) (pos-< e) in
    omega (arith, ints, add_parts (pos (n * square_sum p s t) -ℤ pos (guide_sum p s t * guide_sum p s t)) (pos (n * n * p.set.smoothing)))

-- so kind 2 has no hollow window, and its weights are the formula's
pub guided-weighs : {p : Frame} {s t : ℕ} → Pixel p s t → p.set.kind ≡ 2 → weightless p s t ≡ false
guided-weighs {p} {s} {t} k two = go k.good.sound.kinds (empty p s t) refl
  where
    go : ((p.set.kind ≡ 1) × (p.set.smoothing ≡ 0)) ⊎ ((p.set.kind ≡ 2) × (1 ≤ p.set.smoothing) × (p.set.smoothing ≤ 65025)) →
        (b : Bool) → empty p s t ≡ b → weightless p s t ≡ false
    go (inl h) b e = absurd (omega (arith, h.0))
    go (inr h) true e = empty-weighs p s t e
    go (inr h) false e =
        pos-weighs p s t
        (subst (λ (x : ℤ). pos 0 <ℤ x) (sym (own-total-guided p s t two)) (mul-pos (pos-< (pixel_count-low p s t e)) (variance-pos p s t e h.1)))

pub weight-guided : {p : Frame} {s t : ℕ} → Pixel p s t → (g : ℕ) → p.set.kind ≡ 2
    → weight p s t g ≡ guided_weight (pixel_count p s t) (guide_sum p s t) (square_sum p s t) p.set.smoothing (guide p s t) g
weight-guided {p} {s} {t} k g e = weight-own p s t g (guided-weighs k e) ∙ own-guided p s t g e

pub weight-linear : {p : Frame} {s t : ℕ} → Pixel p s t → (g : ℕ) → p.set.kind ≡ 2 → weight p s t g ≡ slope p s t *ℤ pos g +ℤ offset p s t
weight-linear {p} {s} {t} k g e = weight-own p s t g (guided-weighs k e) ∙ own-linear p s t g e

pub total-guided : {p : Frame} {s t : ℕ} → Pixel p s t → p.set.kind ≡ 2 → total_weight p s t ≡ pos (pixel_count p s t) *ℤ variance p s t
total-guided {p} {s} {t} k e = total-own p s t (guided-weighs k e) ∙ own-total-guided p s t e

-- a window with no reading is steady: its weights are 0
formula-none : (Q E f g : ℕ) → guided_weight 0 0 Q E f g ≡ pos 0
unfolding guided_weight scaled_variance
formula-none Q E f g = rw (zero-mul Q, zero-mul E, zero-mul f, zero-mul g) refl

empty-guided : (p : Frame) (s t g : ℕ) → p.set.kind ≡ 2 → empty p s t ≡ true → weight p s t g ≡ pos 0
empty-guided p s t g two e =
    weight-own p s t g (empty-weighs p s t e) ∙ own-guided p s t g two
    ∙ ap₂ (λ (n S : ℕ). guided_weight n S (square_sum p s t) p.set.smoothing (guide p s t) g) (empty-count p s t e) (empty-guides p s t e)
    ∙ formula-none (square_sum p s t) p.set.smoothing (guide p s t) g

pub empty-monotone : {p : Frame} {s t : ℕ} → Pixel p s t → empty p s t ≡ true → monotone p s t ≡ true
unfolding monotone
empty-monotone {p} {s} {t} k e = go k.good.sound.kinds
  where
    go : ((p.set.kind ≡ 1) × (p.set.smoothing ≡ 0)) ⊎ ((p.set.kind ≡ 2) × (1 ≤ p.set.smoothing) × (p.set.smoothing ≤ 65025)) →
        (eqb p.set.kind 1 || (non_neg (weight p s t 0) && non_neg (weight p s t (p.set.guides - 1)))) ≡ true
    go (inl h) = rw (eq-eqb p.set.kind 1 h.0) refl
    go (inr h) =
        rw (ne_eqb p.set.kind 1 (λ d. omega (arith, h.0)), empty-guided p s t 0 h.0 e, empty-guided p s t (p.set.guides - 1) h.0 e) refl

-- ---- T is above 0 where there is a reading: the own weights' sum where that is not 0, the number of pixels where it is
own-total-pos : {p : Frame} {s t : ℕ} → Pixel p s t → empty p s t ≡ false → weightless p s t ≡ false → pos 0 <ℤ own_total p s t
unfolding own_total
own-total-pos {p} {s} {t} k r e = go k.good.sound.kinds
  where
    more : (pos 0 ≤ℤ own_total p s t) → (own_total p s t ≤ℤ pos 0) ⊎ (pos 0 <ℤ own_total p s t) → pos 0 <ℤ own_total p s t
    more low (inr h) = h
    more low (inl h) = absurd (true≢false (sym (total-weightless p s t r (≤-antisymm h low)) ∙ e))

    go : ((p.set.kind ≡ 1) × (p.set.smoothing ≡ 0)) ⊎ ((p.set.kind ≡ 2) × (1 ≤ p.set.smoothing) × (p.set.smoothing ≤ 65025)) →
        pos 0 <ℤ own_total p s t
    go (inl h) = more (over-nonneg p s t _ (table-light p s t h.0)) (≤-or-> (own_total p s t) (pos 0))
    go (inr h) =
        subst (λ (x : ℤ). pos 0 <ℤ x) (sym (own-total-guided p s t h.0)) (mul-pos (pos-< (pixel_count-low p s t r)) (variance-pos p s t r h.1))

pub total-pos : {p : Frame} {s t : ℕ} → Pixel p s t → empty p s t ≡ false → pos 0 <ℤ total_weight p s t
total-pos {p} {s} {t} k r = go (weightless p s t) refl
  where
    go : (b : Bool) → weightless p s t ≡ b → pos 0 <ℤ total_weight p s t
    go true e = subst (λ (x : ℤ). pos 0 <ℤ x) (sym (total-one p s t e)) (pos-< (pixel_count-low p s t r))
    go false e = subst (λ (x : ℤ). pos 0 <ℤ x) (sym (total-own p s t e)) (own-total-pos k r e)

pub total-low : {p : Frame} {s t : ℕ} → Pixel p s t → pos 0 ≤ℤ total_weight p s t
total-low {p} {s} {t} k = go (empty p s t) refl
  where
    go : (b : Bool) → empty p s t ≡ b → pos 0 ≤ℤ total_weight p s t
    go true e = ≤-of-eq (sym (total-empty p s t e))
    go false e = <-to-≤ (total-pos k e)
