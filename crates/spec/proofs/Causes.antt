-- Why a window has its answer: the formula is not negative at one end of the guides, so exactly one cause applies; and the answer's sums are on
-- either side of half.
-- Assumes nothing.
use mathlib.Core.Path.{◌≡◌, refl, sym, ap, ◌∙◌, subst}
use mathlib.Core.Bool.{Bool, true, false, true≢false, ◌&&◌, ◌||◌}
use mathlib.Core.Logic.{◌⊎◌, inl, inr, ⊎_elim}
use Prim.Native.Nat.{ℕ, zero, suc, ◌+◌, ◌-◌, ◌*◌, ◌≤◌, ◌<◌}
use native.Mathlib.Omega.{arith}
use lib.Dec.{eqb}
use lib.IntN.{ℤ, pos, negsuc, ◌+ℤ◌, ◌-ℤ◌, ◌*ℤ◌}
use lib.Signed.{◌≤ℤ◌, ◌<ℤ◌, non_neg, clash_ℤ}
use Rattle.ints.specs.Order.{add_parts, diff-parts, ≤-or->, mul-nonneg, square-nonneg, 0≤pos}
use Rattle.ints.specs.Linear.{ints}
use Rattle.ints.specs.Polynomial.{◌⊕◌, ◌⊖◌, ◌⊗◌, #◌, ◌≐◌, solve4, solve5}
use Rattle.std.specs.Prelude.{if◌then◌else◌}
use Rattle.spec.specs.declared.Settings.{Settings}
use Rattle.spec.specs.declared.Cause.{Cause}
use Rattle.spec.specs.declared.Cause.TheVariants.{Ordinary, Hollow, NegativeAtZero, NegativeAtLast, Empty}
use Rattle.spec.specs.Frame.{Frame, guide}
use Rattle.spec.specs.Window.{pixel_count, empty, guide_sum}
use Rattle.spec.specs.Weight.{guided_weight, own_weight, weightless, weight, monotone, variance}
use Rattle.spec.specs.Median.{total_weight, cumulative, median, answer}
use Rattle.spec.specs.Explain.{cumulative_below, Applies, cause_of}
use Rattle.spec.specs.Checks.{SettingsLimits}
use Rattle.spec.proofs.Limits.{FrameLimits, Pixel}
use Rattle.spec.proofs.Own.{
  weight-own,
  weightless-monotone,
  weightless-read,
  empty-monotone,
  own-table,
  own-guided,
  variance-nonneg,
  total-pos,
}
use Rattle.spec.proofs.Totals.{non_neg-le, median-at, median-before, balance-le, balance-lt, answer-median}
use Rattle.spec.proofs.Climb.{cumulative_below-zero, cumulative_below-suc}

-- ---- never both ends: with a = n·g(x) − S the formula is V + a² at the centre's guide, and it rises toward the last guide where a is not negative,
-- toward guide 0 where it is
above : {x y z : ℤ} → pos 0 ≤ℤ x → pos 0 ≤ℤ y → pos 0 ≤ℤ z → pos 0 ≤ℤ (x +ℤ y +ℤ z)
above {x} {y} {z} a b c = omega (arith, ints, add_parts x y, add_parts (x +ℤ y) z)

at_last : (v n f d u : ℤ) → v +ℤ (n *ℤ f -ℤ u) *ℤ (n *ℤ (f +ℤ d) -ℤ u) ≡ v +ℤ (n *ℤ f -ℤ u) *ℤ (n *ℤ f -ℤ u) +ℤ (n *ℤ f -ℤ u) *ℤ (n *ℤ d)
at_last = solve5 (λ v n f d u. v ⊕ (n ⊗ f ⊖ u) ⊗ (n ⊗ (f ⊕ d) ⊖ u) ≐ v ⊕ (n ⊗ f ⊖ u) ⊗ (n ⊗ f ⊖ u) ⊕ (n ⊗ f ⊖ u) ⊗ (n ⊗ d)) refl

at_zero : (v n f u : ℤ) → v +ℤ (n *ℤ f -ℤ u) *ℤ (n *ℤ pos 0 -ℤ u) ≡ v +ℤ (n *ℤ f -ℤ u) *ℤ (n *ℤ f -ℤ u) +ℤ (u -ℤ n *ℤ f) *ℤ (n *ℤ f)
at_zero = solve4 (λ v n f u. v ⊕ (n ⊗ f ⊖ u) ⊗ (n ⊗ # 0 ⊖ u) ≐ v ⊕ (n ⊗ f ⊖ u) ⊗ (n ⊗ f ⊖ u) ⊕ (u ⊖ n ⊗ f) ⊗ (n ⊗ f)) refl

pub an-end : {p : Frame} {s t : ℕ} → Pixel p s t → p.set.kind ≡ 2 → (pos 0 ≤ℤ own_weight p s t 0) ⊎ (pos 0 ≤ℤ own_weight p s t (p.set.guides - 1))
unfolding guided_weight variance
an-end {p} {s} {t} k two = go (≤-or-> (pos 0) (n *ℤ f -ℤ u))
  where
    n : ℤ
    n = pos (pixel_count p s t)

    f : ℤ
    f = pos (guide p s t)

    u : ℤ
    u = pos (guide_sum p s t)

    high : pos 0 ≤ℤ variance p s t
    high = variance-nonneg p s t

    rest : ℕ
    rest = p.set.guides - 1 - guide p s t

    last : p.set.guides - 1 ≡ guide p s t + rest
    last = let h = k.good.guide-low s t k.in-column k.in-row in omega arith

    go : (pos 0 ≤ℤ (n *ℤ f -ℤ u)) ⊎ ((n *ℤ f -ℤ u) <ℤ pos 0) → (pos 0 ≤ℤ own_weight p s t 0) ⊎ (pos 0 ≤ℤ own_weight p s t (p.set.guides - 1))
    go (inl h) =
        inr (subst (λ (z : ℤ). pos 0 ≤ℤ z)
        (sym (ap (own_weight p s t) last ∙ own-guided p s t (guide p s t + rest) two ∙ at_last (variance p s t) n f (pos rest) u))
        (above high (square-nonneg (n *ℤ f -ℤ u)) (mul-nonneg h (mul-nonneg 0≤pos 0≤pos))))
    go (inr h) =
        let less : pos 0 ≤ℤ (u -ℤ n *ℤ f) = omega (arith, ints, diff-parts (n *ℤ f) u, diff-parts u (n *ℤ f)) in
        inl (subst (λ (z : ℤ). pos 0 ≤ℤ z) (sym (own-guided p s t 0 two ∙ at_zero (variance p s t) n f u))
        (above high (square-nonneg (n *ℤ f -ℤ u)) (mul-nonneg less (mul-nonneg 0≤pos 0≤pos))))

-- ---- a window that is not steady
negative : (z : ℤ) → non_neg z ≡ false → z <ℤ pos 0
negative (pos n) e = absurd (true≢false e)
negative (negsuc n) e = record { lt = tt }

-- of x or (y and z) that do not hold, z does not where y does
unmet : (x y z : Bool) → (x || (y && z)) ≡ false → y ≡ true → z ≡ false
unmet true y z e h = absurd (true≢false e)
unmet false false z e h = absurd (true≢false (sym h))
unmet false true z e h = e

module _ {p : Frame} {s t : ℕ} (k : Pixel p s t) where
  -- document 02: never both. Kind 1 has no negative weight at all
  pub never_both : own_weight p s t 0 <ℤ pos 0 → own_weight p s t (p.set.guides - 1) <ℤ pos 0 → ⊥
  never_both a b = go k.good.sound.kinds
    where
      go : ((p.set.kind ≡ 1) × (p.set.smoothing ≡ 0)) ⊎ ((p.set.kind ≡ 2) × (1 ≤ p.set.smoothing) × (p.set.smoothing ≤ 65025)) → ⊥
      go (inl h) = clash_ℤ (subst (λ (z : ℤ). z <ℤ pos 0) (own-table p s t 0 h.0) a) 0≤pos
      go (inr h) = ⊎_elim (λ q. clash_ℤ a q) (λ q. clash_ℤ b q) (an-end k h.0)

  -- ---- the cause given applies
  pub applies : Applies p s t (cause_of p s t)
  unfolding cause_of monotone
  applies = reading (empty p s t) refl
    where
      end : (b : Bool) → non_neg (weight p s t 0) ≡ b → weightless p s t ≡ false → monotone p s t ≡ false
          → Applies p s t (if b then NegativeAtLast else NegativeAtZero)
      end true first e m =
          let last = p.set.guides - 1 in
          let below = unmet (eqb p.set.kind 1) (non_neg (weight p s t 0)) (non_neg (weight p s t last)) m first in
          (m, subst (λ (z : ℤ). z <ℤ pos 0) (weight-own p s t last e) (negative (weight p s t last) below))
      end false first e m = (m, subst (λ (z : ℤ). z <ℤ pos 0) (weight-own p s t 0 e) (negative (weight p s t 0) first))

      steady : (b : Bool) → monotone p s t ≡ b → empty p s t ≡ false → weightless p s t ≡ false
          → Applies p s t (if b then Ordinary else if non_neg (weight p s t 0) then NegativeAtLast else NegativeAtZero)
      steady true m r e = (r, e, m)
      steady false m r e = end (non_neg (weight p s t 0)) refl e m

      go : (b : Bool) → weightless p s t ≡ b → empty p s t ≡ false
          → Applies p s t
          (if b then Hollow
          else if monotone p s t then Ordinary
          else if non_neg (weight p s t 0) then NegativeAtLast
          else NegativeAtZero)
      go true e r = e
      go false e r = steady (monotone p s t) refl r e

      reading : (b : Bool) → empty p s t ≡ b
          → Applies p s t
          (if b then Empty
          else if weightless p s t then Hollow
          else if monotone p s t then Ordinary
          else if non_neg (weight p s t 0) then NegativeAtLast
          else NegativeAtZero)
      reading true e = e
      reading false e = go (weightless p s t) refl e

  -- ---- and no other does
  full-hollow : weightless p s t ≡ false → weightless p s t ≡ true → ⊥
  full-hollow a b = true≢false (sym b ∙ a)

  steady-not : monotone p s t ≡ true → monotone p s t ≡ false → ⊥
  steady-not a b = true≢false (sym a ∙ b)

  hollow-not : weightless p s t ≡ true → monotone p s t ≡ false → ⊥
  hollow-not a b = steady-not (weightless-monotone p s t a) b

  read-not : empty p s t ≡ false → empty p s t ≡ true → ⊥
  read-not a b = true≢false (sym b ∙ a)

  empty-not : empty p s t ≡ true → monotone p s t ≡ false → ⊥
  empty-not a b = steady-not (empty-monotone k a) b

  pub applies-once : (c d : Cause) → Applies p s t c → Applies p s t d → c ≡ d
  applies-once Ordinary Ordinary a b = refl
  applies-once Ordinary Hollow a b = absurd (full-hollow a.1 b)
  applies-once Ordinary NegativeAtZero a b = absurd (steady-not a.2 b.0)
  applies-once Ordinary NegativeAtLast a b = absurd (steady-not a.2 b.0)
  applies-once Ordinary Empty a b = absurd (read-not a.0 b)
  applies-once Hollow Ordinary a b = absurd (full-hollow b.1 a)
  applies-once Hollow Hollow a b = refl
  applies-once Hollow NegativeAtZero a b = absurd (hollow-not a b.0)
  applies-once Hollow NegativeAtLast a b = absurd (hollow-not a b.0)
  applies-once Hollow Empty a b = absurd (read-not (weightless-read p s t a) b)
  applies-once NegativeAtZero Ordinary a b = absurd (steady-not b.2 a.0)
  applies-once NegativeAtZero Hollow a b = absurd (hollow-not b a.0)
  applies-once NegativeAtZero NegativeAtZero a b = refl
  applies-once NegativeAtZero NegativeAtLast a b = absurd (never_both a.1 b.1)
  applies-once NegativeAtZero Empty a b = absurd (empty-not b a.0)
  applies-once NegativeAtLast Ordinary a b = absurd (steady-not b.2 a.0)
  applies-once NegativeAtLast Hollow a b = absurd (hollow-not b a.0)
  applies-once NegativeAtLast NegativeAtZero a b = absurd (never_both b.1 a.1)
  applies-once NegativeAtLast NegativeAtLast a b = refl
  applies-once NegativeAtLast Empty a b = absurd (empty-not b a.0)
  applies-once Empty Ordinary a b = absurd (read-not b.0 a)
  applies-once Empty Hollow a b = absurd (read-not (weightless-read p s t b) a)
  applies-once Empty NegativeAtZero a b = absurd (empty-not a b.0)
  applies-once Empty NegativeAtLast a b = absurd (empty-not a b.0)
  applies-once Empty Empty a b = refl

  -- ---- 2U(m − 1) < T ≤ 2U(m), where there is a reading
  pub below_half : empty p s t ≡ false → (pos 2 *ℤ cumulative_below p s t (answer p s t)) <ℤ total_weight p s t
  below_half r =
      subst (λ (m : ℕ). (pos 2 *ℤ cumulative_below p s t m) <ℤ total_weight p s t) (sym (answer-median p s t r)) (go (median p s t) refl)
    where
      go : (m : ℕ) → median p s t ≡ m → (pos 2 *ℤ cumulative_below p s t m) <ℤ total_weight p s t
      go zero e = subst (λ (z : ℤ). (pos 2 *ℤ z) <ℤ total_weight p s t) (sym (cumulative_below-zero p s t)) (total-pos k r)
      go (suc m) e =
          subst (λ (z : ℤ). (pos 2 *ℤ z) <ℤ total_weight p s t) (sym (cumulative_below-suc p s t m))
          (balance-lt p s t m (median-before p s t m (omega arith)))

  pub reached-half : empty p s t ≡ false → total_weight p s t ≤ℤ (pos 2 *ℤ cumulative p s t (answer p s t))
  reached-half r =
      subst (λ (m : ℕ). total_weight p s t ≤ℤ (pos 2 *ℤ cumulative p s t m)) (sym (answer-median p s t r))
      (balance-le p s t (median p s t) (median-at k))
