-- A steady window has no negative weight, so its balance never falls from level to level, and the answer is found by moving from any cut.
-- Assumes nothing.
use mathlib.Core.Path.{◌≡◌, refl, sym, ap, ◌∙◌, subst}
use mathlib.Core.Bool.{Bool, true, false, ◌&&◌}
use mathlib.Core.Logic.{◌⊎◌, inl, inr, ◌↔◌}
use Prim.Native.Nat.{ℕ, zero, suc, ◌+◌, ◌-◌, ◌≤◌, ◌<◌}
use native.Mathlib.Nat.{add-suc, add-zero}
use native.Mathlib.Omega.{arith}
use native.Mathlib.Decide.{dec_le, dec_lt, ℕ_discrete}
use lib.Dec.{leb, eqb}
use lib.IntN.{ℤ, pos, negsuc, ◌+ℤ◌, ◌-ℤ◌, ◌*ℤ◌, *ℤ-zero}
use lib.Signed.{◌≤ℤ◌, ◌<ℤ◌, non_neg, ≤ℤ_refl, clash_ℤ}
use borrow.Author.Tests.{eq-eqb, ne_eqb, le-leb, lt-leb}
use Rattle.ints.specs.Order.{add_parts, ≤_trans, ≤-<-trans, +-mono, sub-mono, mul-nonneg, mul-mono-l, mul-cancel-≤, 0≤pos, pos-<, litℤ≤}
use Rattle.ints.specs.Linear.{ints}
use Rattle.ints.specs.Polynomial.{◌⊕◌, ◌⊖◌, ◌⊗◌, #◌, ◌≐◌, solve3, solve4}
use Rattle.std.specs.Prelude.{if◌then◌else◌}
use Rattle.spec.specs.Base.{indicator}
use Rattle.spec.specs.declared.Settings.{Settings}
use Rattle.spec.specs.Frame.{Frame, level, guide}
use Rattle.spec.specs.Window.{pixel_count, in_cell, count, InWindow}
use Rattle.spec.specs.Weight.{weight, monotone, slope, offset}
use Rattle.spec.specs.Median.{total_weight, cumulative, balance, median}
use Rattle.spec.proofs.Ranges.{int_sums}
use Rattle.spec.proofs.Sums.{over-in_window, over_add, over-scale, over-pos, over-nonneg, over-constantℤ}
use Rattle.spec.proofs.Checks.{both}
use Rattle.spec.specs.Checks.{SettingsLimits}
use Rattle.spec.proofs.Limits.{FrameLimits, Pixel}
use Rattle.spec.proofs.Own.{weight-table, weight-linear}
use Rattle.spec.proofs.Levels.{level_weight, cumulative-next, cell}
use Rattle.spec.proofs.Totals.{non_neg-le, median-at, median-before, median-is}

-- no pixel of the window is counted with a weight below 0
abbrev pub CountsNonNegative : Frame → ℕ → ℕ → Type 0
CountsNonNegative p s t = (x y : ℕ) → InWindow p s t x y → pos 0 ≤ℤ weight p s t (guide p x y)

-- ---- steady
-- between two places where it is not negative, what is linear is not negative
between : (c d : ℤ) (a g : ℕ) → 0 < a + g → pos 0 ≤ℤ (c *ℤ pos 0 +ℤ d) → pos 0 ≤ℤ (c *ℤ pos (a + g) +ℤ d) → pos 0 ≤ℤ (c *ℤ pos g +ℤ d)
between c d a g h u v =
    mul-cancel-≤ (pos (a + g)) (pos-< h)
    (subst (λ (x : ℤ). x ≤ℤ (pos (a + g) *ℤ (c *ℤ pos g +ℤ d))) (sym (*ℤ-zero (pos (a + g))))
    (subst (λ (x : ℤ). pos 0 ≤ℤ x)
    (solve4 (λ c d a g. a ⊗ (c ⊗ # 0 ⊕ d) ⊕ g ⊗ (c ⊗ (a ⊕ g) ⊕ d) ≐ (a ⊕ g) ⊗ (c ⊗ g ⊕ d)) refl c d (pos a) (pos g))
    (+-mono (mul-nonneg (0≤pos {n = a}) u) (mul-nonneg (0≤pos {n = g}) v))))

pub monotone-weight : {p : Frame} {s t : ℕ} → Pixel p s t → monotone p s t ≡ true → (g : ℕ) → g < p.set.guides → pos 0 ≤ℤ weight p s t g
unfolding monotone
monotone-weight {p} {s} {t} k e g h = go k.good.sound.kinds
  where
    go : ((p.set.kind ≡ 1) × (p.set.smoothing ≡ 0)) ⊎ ((p.set.kind ≡ 2) × (1 ≤ p.set.smoothing) × (p.set.smoothing ≤ 65025)) →
        pos 0 ≤ℤ weight p s t g
    go (inl a) = subst (λ (z : ℤ). pos 0 ≤ℤ z) (sym (weight-table p s t g a.0)) 0≤pos
    go (inr a) =
        let two : p.set.kind ≡ 2 = a.0 in
        let f : (non_neg (weight p s t 0) && non_neg (weight p s t (p.set.guides - 1))) ≡ true =
        rw (ne_eqb p.set.kind 1 (λ d. omega arith)) at e in
        let q = both (non_neg (weight p s t 0)) (non_neg (weight p s t (p.set.guides - 1))) f in
        let low = k.good.sound.guides_low in
        let m : p.set.guides - 1 ≡ (p.set.guides - 1 - g) + g = omega arith in
        subst (λ (z : ℤ). pos 0 ≤ℤ z) (sym (weight-linear k g two))
        (between (slope p s t) (offset p s t) (p.set.guides - 1 - g) g (omega arith)
        (subst (λ (z : ℤ). pos 0 ≤ℤ z) (weight-linear k 0 two) (non_neg-le (weight p s t 0) q.0))
        (subst (λ (n : ℕ). pos 0 ≤ℤ (slope p s t *ℤ pos n +ℤ offset p s t)) m
        (subst (λ (z : ℤ). pos 0 ≤ℤ z) (weight-linear k (p.set.guides - 1) two) (non_neg-le (weight p s t (p.set.guides - 1)) q.1))))

pub monotone-none : {p : Frame} {s t : ℕ} → Pixel p s t → monotone p s t ≡ true → CountsNonNegative p s t
monotone-none {p} k e x y h = monotone-weight k e (guide p x y) (k.good.guide-low x y h.wide h.high)

-- ---- U and the balance from level to level
pub balance-next : (p : Frame) (s t i : ℕ) → balance p s t (suc i) ≡ balance p s t i +ℤ pos 2 *ℤ level_weight p s t (suc i)
unfolding balance
balance-next p s t i =
    ap (λ (u : ℤ). pos 2 *ℤ u -ℤ total_weight p s t) (cumulative-next p s t i)
    ∙ solve3 (λ u w a. # 2 ⊗ (u ⊕ w) ⊖ a ≐ (# 2 ⊗ u ⊖ a) ⊕ # 2 ⊗ w) refl (cumulative p s t i) (level_weight p s t (suc i)) (total_weight p s t)

-- the box from cut to cut
cell-step : (b : Bool) (v c : ℕ)
    → (if b then (if leb v (suc c) then pos 1 else negsuc 0) else pos 0)
    ≡ (if b then (if leb v c then pos 1 else negsuc 0) else pos 0) +ℤ pos 2 *ℤ pos (indicator (eqb v (suc c) && b))
cell-step false v c = go (eqb v (suc c))
  where
    go : (d : Bool) → pos 0 ≡ pos 0 +ℤ pos 2 *ℤ pos (indicator (d && false))
    go true = refl
    go false = refl
cell-step true v c = go (dec_le v c) (ℕ_discrete v (suc c))
  where
    go : Dec (v ≤ c) → Dec (v ≡ suc c) →
        (if leb v (suc c) then pos 1 else negsuc 0) ≡ (if leb v c then pos 1 else negsuc 0) +ℤ pos 2 *ℤ pos (indicator (eqb v (suc c) && true))
    go (yes a) d = rw (le-leb v (suc c) (omega arith), le-leb v c a, ne_eqb v (suc c) (λ e. omega arith)) refl
    go (no a) (yes e) = rw (le-leb v (suc c) (omega arith), lt-leb v c (omega arith), eq-eqb v (suc c) e) refl
    go (no a) (no e) = rw (lt-leb v (suc c) (omega arith), lt-leb v c (omega arith), ne_eqb v (suc c) e) refl

pub cell-next : (p : Frame) (s t c f : ℕ) → cell p s t (suc c) f ≡ cell p s t c f +ℤ pos 2 *ℤ pos (count p s t (suc c) f)
unfolding cell count
cell-next p s t c f =
    over-in_window ◌+ℤ◌ (pos 0) int_sums p s t _ _ (λ x y h. cell-step (eqb (guide p x y) f) (level p x y) c)
    ∙ over_add p s t (λ x y. if eqb (guide p x y) f then (if leb (level p x y) c then pos 1 else negsuc 0) else pos 0)
    (λ x y. pos 2 *ℤ pos (in_cell p (suc c) f x y))
    ∙ ap (λ (q : ℤ). cell p s t c f +ℤ q)
    (over-scale p s t (pos 2) (λ x y. pos (in_cell p (suc c) f x y)) ∙ ap (λ (q : ℤ). pos 2 *ℤ q) (over-pos p s t (in_cell p (suc c) f)))

-- a cell that no pixel has the guide of
pub cell-none : (p : Frame) (s t c f : ℕ) → ((x y : ℕ) → InWindow p s t x y → guide p x y ≡ f → ⊥) → cell p s t c f ≡ pos 0
unfolding cell
cell-none p s t c f h =
    over-in_window ◌+ℤ◌ (pos 0) int_sums p s t _ (λ x y. pos 0) (λ x y k. rw (ne_eqb (guide p x y) f (h x y k)) refl)
    ∙ over-constantℤ p s t (pos 0) ∙ *ℤ-zero (pos (pixel_count p s t))

-- for readers: the box is 0 from M on
pub cell-beyond : {p : Frame} {s t : ℕ} → Pixel p s t → (c f : ℕ) → p.set.guides ≤ f → cell p s t c f ≡ pos 0
cell-beyond {p} {s} {t} k c f h = cell-none p s t c f (λ x y l e. omega (arith, k.good.guide-low x y l.wide l.high))

-- ---- monotone
module _ (p : Frame) (s t : ℕ) (light : CountsNonNegative p s t) where
  pub level-weight-low : (i : ℕ) → pos 0 ≤ℤ level_weight p s t i
  unfolding level_weight
  level-weight-low i = over-nonneg p s t _ (λ x y h. go (eqb (level p x y) i) (weight p s t (guide p x y)) (light x y h))
    where
      go : (b : Bool) (w : ℤ) → pos 0 ≤ℤ w → pos 0 ≤ℤ (if b then w else pos 0)
      go true w h = h
      go false w h = ≤ℤ_refl (pos 0)

  cumulative-step : (i d : ℕ) → cumulative p s t i ≤ℤ cumulative p s t (i + d)
  cumulative-step i zero = subst (λ (j : ℕ). cumulative p s t i ≤ℤ cumulative p s t j) (sym (add-zero i)) (≤ℤ_refl (cumulative p s t i))
  cumulative-step i (suc d) =
      subst (λ (j : ℕ). cumulative p s t i ≤ℤ cumulative p s t j) (sym (add-suc i d))
      (subst (λ (u : ℤ). cumulative p s t i ≤ℤ u) (sym (cumulative-next p s t (i + d)))
      (let a = cumulative-step i d in let b =
      level-weight-low (suc (i + d)) in omega (arith, ints, add_parts (cumulative p s t (i + d)) (level_weight p s t (suc (i + d))))))

  pub cumulative-mono : (i j : ℕ) → i ≤ j → cumulative p s t i ≤ℤ cumulative p s t j
  cumulative-mono i j h = let e : i + (j - i) ≡ j =
      omega arith in subst (λ (n : ℕ). cumulative p s t i ≤ℤ cumulative p s t n) e (cumulative-step i (j - i))

  pub balance-mono : (i j : ℕ) → i ≤ j → balance p s t i ≤ℤ balance p s t j
  unfolding balance
  balance-mono i j h = sub-mono (mul-mono-l (pos 2) (litℤ≤ tt) (cumulative-mono i j h)) (≤ℤ_refl (total_weight p s t))

  -- the answer, by its own balance and the one below it
  pub median-here : (m : ℕ) → m < p.set.levels → pos 0 ≤ℤ balance p s t m → ((j : ℕ) → m ≡ suc j → balance p s t j <ℤ pos 0) → median p s t ≡ m
  median-here m h b below = median-is p s t m h b (λ i l. ≤-<-trans (balance-mono i (m - 1) (omega arith)) (below (m - 1) (omega arith)))

-- for readers, from a cut c: the balance says on which side the answer is
pub median-down : (p : Frame) (s t c : ℕ) → pos 0 ≤ℤ balance p s t c → median p s t ≤ c
median-down p s t c b = go (dec_lt c (median p s t))
  where
    go : Dec (c < median p s t) → median p s t ≤ c
    go (yes h) = clash_ℤ (median-before p s t c h) b
    go (no h) = omega arith

pub median-up : {p : Frame} {s t : ℕ} → Pixel p s t → CountsNonNegative p s t → (c : ℕ) → balance p s t c <ℤ pos 0 → c < median p s t
median-up {p} {s} {t} k light c b = go (dec_lt c (median p s t))
  where
    go : Dec (c < median p s t) → c < median p s t
    go (yes h) = h
    go (no h) = clash_ℤ b (≤_trans (median-at k) (balance-mono p s t light (median p s t) c (omega arith)))

-- for readers: the characterisation, both ways
pub median-monotone : {p : Frame} {s t : ℕ} → Pixel p s t → CountsNonNegative p s t → (m : ℕ) → m < p.set.levels
    → (median p s t ≡ m) ↔ ((pos 0 ≤ℤ balance p s t m) × ((j : ℕ) → m ≡ suc j → balance p s t j <ℤ pos 0))
median-monotone {p} {s} {t} k light m h = (
  (λ e. (subst (λ (n : ℕ). pos 0 ≤ℤ balance p s t n) e (median-at k), λ j d. median-before p s t j (omega arith))),
  λ q. median-here p s t light m h q.0 q.1,
)
