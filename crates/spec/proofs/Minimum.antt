-- The answer makes the weighted sum of absolute differences smallest, and is the smallest level that does.
-- Assumes nothing.
use mathlib.Core.Path.{◌≡◌, refl, sym, ap, ◌∙◌, subst}
use mathlib.Core.Bool.{Bool, true, false}
use Prim.Native.Nat.{ℕ, zero, suc, ◌+◌, ◌-◌, ◌≤◌, ◌<◌}
use native.Mathlib.Nat.{add-suc, add-zero}
use native.Mathlib.Omega.{arith}
use native.Mathlib.Decide.{dec_le, dec_lt}
use lib.Dec.{leb}
use lib.IntN.{ℤ, pos, negsuc, ◌+ℤ◌, ◌*ℤ◌}
use lib.Signed.{◌≤ℤ◌, ◌<ℤ◌, ≤ℤ_refl}
use borrow.Author.Tests.{le-leb, lt-leb}
use Rattle.ints.specs.Order.{add_parts, ≤_trans, <-to-≤}
use Rattle.ints.specs.Linear.{ints}
use Rattle.ints.specs.Polynomial.{◌⊕◌, ◌⊗◌, opposite, #◌, ◌≐◌, solve2}
use Rattle.std.specs.Prelude.{if◌then◌else◌}
use Rattle.spec.specs.Base.{distance}
use Rattle.spec.specs.declared.Settings.{Settings}
use Rattle.spec.specs.Frame.{Frame, level, guide}
use Rattle.spec.specs.Window.{pixel_count, empty}
use Rattle.spec.specs.Weight.{own_weight, weightless}
use Rattle.spec.specs.Median.{balance, median, answer, differences, NoneNegative, NotAllZero}
use Rattle.spec.proofs.Ranges.{int_sums}
use Rattle.spec.proofs.Sums.{over-in_window, over_add, over-term}
use Rattle.spec.specs.Checks.{SettingsLimits}
use Rattle.spec.proofs.Limits.{FrameLimits, Pixel}
use Rattle.spec.proofs.Own.{weight-own, weightless-zero, empty-count}
use Rattle.spec.proofs.Levels.{balance-signed}
use Rattle.spec.proofs.Totals.{median-at, median-before, answer-median}
use Rattle.spec.proofs.Monotone.{CountsNonNegative, balance-mono}

-- ---- from level to level the sum changes by the balance
apart : (v i : ℕ) (w : ℤ) → w *ℤ pos (distance v (suc i)) ≡ w *ℤ pos (distance v i) +ℤ (if leb v i then pos 1 else negsuc 0) *ℤ w
apart v i w = go (dec_le v i)
  where
    go : Dec (v ≤ i) → w *ℤ pos (distance v (suc i)) ≡ w *ℤ pos (distance v i) +ℤ (if leb v i then pos 1 else negsuc 0) *ℤ w
    go (yes h) =
        let e : distance v (suc i) ≡ distance v i + 1 = omega arith in
        rw (le-leb v i h) (ap (λ (n : ℕ). w *ℤ pos n) e ∙ solve2 (λ w d. w ⊗ (d ⊕ # 1) ≐ w ⊗ d ⊕ # 1 ⊗ w) refl w (pos (distance v i)))
    go (no h) =
        let e : distance v i ≡ distance v (suc i) + 1 = omega arith in
        rw (lt-leb v i (omega arith))
        (solve2 (λ w d. w ⊗ d ≐ w ⊗ (d ⊕ # 1) ⊕ opposite (# 1) ⊗ w) refl w (pos (distance v (suc i))) ∙ ap (λ (n : ℕ). w *ℤ pos n +ℤ negsuc 0 *ℤ w)
        (sym e))

-- in a window that is not hollow, which is counted by its own weights
module _ (p : Frame) (s t : ℕ) (full : weightless p s t ≡ false) where
  pub differences-next : (i : ℕ) → differences p s t (suc i) ≡ differences p s t i +ℤ balance p s t i
  unfolding differences
  differences-next i =
      over-in_window ◌+ℤ◌ (pos 0) int_sums p s t _ _ (λ x y h. apart (level p x y) i (own_weight p s t (guide p x y)))
      ∙ over_add p s t (λ x y. own_weight p s t (guide p x y) *ℤ pos (distance (level p x y) i))
      (λ x y. (if leb (level p x y) i then pos 1 else negsuc 0) *ℤ own_weight p s t (guide p x y))
      ∙ ap (λ (q : ℤ). differences p s t i +ℤ q)
      (over-in_window ◌+ℤ◌ (pos 0) int_sums p s t _ _
      (λ x y h. ap (λ (w : ℤ). (if leb (level p x y) i then pos 1 else negsuc 0) *ℤ w) (sym (weight-own p s t (guide p x y) full)))
      ∙ sym (balance-signed p s t i))

  -- below the answer it falls
  falls : (i d : ℕ) → i + d < median p s t → differences p s t (suc (i + d)) <ℤ differences p s t i
  falls i zero h =
      let e : i + 0 ≡ i = add-zero i in
      let b : balance p s t i <ℤ pos 0 = median-before p s t i (omega arith) in
      subst (λ (n : ℕ). differences p s t (suc n) <ℤ differences p s t i) (sym e)
      (subst (λ (z : ℤ). z <ℤ differences p s t i) (sym (differences-next i))
      (omega (arith, ints, add_parts (differences p s t i) (balance p s t i))))
  falls i (suc d) h =
      let e : i + suc d ≡ suc (i + d) = add-suc i d in
      let b : balance p s t (suc (i + d)) <ℤ pos 0 = median-before p s t (suc (i + d)) (omega arith) in
      let ih : differences p s t (suc (i + d)) <ℤ differences p s t i = falls i d (omega arith) in
      subst (λ (n : ℕ). differences p s t (suc n) <ℤ differences p s t i) (sym e)
      (subst (λ (z : ℤ). z <ℤ differences p s t i) (sym (differences-next (suc (i + d))))
      (omega (arith, ints, add_parts (differences p s t (suc (i + d))) (balance p s t (suc (i + d))))))

  pub least-below : (i : ℕ) → i < median p s t → differences p s t (median p s t) <ℤ differences p s t i
  least-below i h =
      let e : suc (i + (median p s t - suc i)) ≡ median p s t = omega arith in
      subst (λ (n : ℕ). differences p s t n <ℤ differences p s t i) e (falls i (median p s t - suc i) (omega arith))

  -- from the answer on it rises, where no weight is negative
  rises : Pixel p s t → CountsNonNegative p s t → (d : ℕ) → differences p s t (median p s t) ≤ℤ differences p s t (median p s t + d)
  rises k light zero =
      subst (λ (n : ℕ). differences p s t (median p s t) ≤ℤ differences p s t n) (sym (add-zero (median p s t)))
      (≤ℤ_refl (differences p s t (median p s t)))
  rises k light (suc d) =
      let ih : differences p s t (median p s t) ≤ℤ differences p s t (median p s t + d) = rises k light d in
      let b : pos 0 ≤ℤ balance p s t (median p s t + d) =
      ≤_trans (median-at k) (balance-mono p s t light (median p s t) (median p s t + d) (omega arith)) in
      subst (λ (n : ℕ). differences p s t (median p s t) ≤ℤ differences p s t n) (sym (add-suc (median p s t) d))
      (subst (λ (z : ℤ). differences p s t (median p s t) ≤ℤ z) (sym (differences-next (median p s t + d)))
      (omega (arith, ints, add_parts (differences p s t (median p s t + d)) (balance p s t (median p s t + d)))))

  pub least : Pixel p s t → CountsNonNegative p s t → (i : ℕ) → differences p s t (median p s t) ≤ℤ differences p s t i
  least k light i = go (dec_lt i (median p s t))
    where
      go : Dec (i < median p s t) → differences p s t (median p s t) ≤ℤ differences p s t i
      go (yes h) = <-to-≤ (least-below i h)
      go (no h) =
          let e : median p s t + (i - median p s t) ≡ i = omega arith in
          subst (λ (n : ℕ). differences p s t (median p s t) ≤ℤ differences p s t n) e (rises k light (i - median p s t))

-- ---- demand 3: no own weight negative, and not all zero
pub weighs-some : (p : Frame) (s t : ℕ) → NoneNegative p s t → NotAllZero p s t → weightless p s t ≡ false
weighs-some p s t light some = go (weightless p s t) refl
  where
    go : (b : Bool) → weightless p s t ≡ b → b ≡ false
    go false e = refl
    go true e = absurd (some (weightless-zero p s t light e))

-- then there is a reading
pub some-reading : (p : Frame) (s t : ℕ) → NotAllZero p s t → empty p s t ≡ false
unfolding pixel_count
some-reading p s t some = go (empty p s t) refl
  where
    go : (b : Bool) → empty p s t ≡ b → b ≡ false
    go false e = refl
    go true e = absurd (some (λ x y h. absurd (omega (arith, over-term p s t (λ u v. 1) x y h, empty-count p s t e))))

counts-own : (p : Frame) (s t : ℕ) → weightless p s t ≡ false → NoneNegative p s t → CountsNonNegative p s t
counts-own p s t full light x y h = subst (λ (z : ℤ). pos 0 ≤ℤ z) (sym (weight-own p s t (guide p x y) full)) (light x y h)

pub minimum : {p : Frame} {s t : ℕ} → Pixel p s t → NoneNegative p s t → NotAllZero p s t → (i : ℕ)
    → (differences p s t (answer p s t) ≤ℤ differences p s t i) × (i < answer p s t → differences p s t (answer p s t) <ℤ differences p s t i)
minimum {p} {s} {t} k light some i =
    let full = weighs-some p s t light some in
    rw (answer-median p s t (some-reading p s t some)) (least p s t full k (counts-own p s t full light) i, λ h. least-below p s t full i h)
