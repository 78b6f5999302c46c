-- The coefficients of a window's sums are the definition's, and the two ends of the formula say whether the cumulative weight never falls.
-- Assumes nothing.
use mathlib.Core.Path.{◌≡◌, refl, sym, ap, ◌∙◌, subst}
use mathlib.Core.Bool.{◌&&◌}
use mathlib.Core.List.{List}
use Prim.Native.Nat.{ℕ, ◌-◌, ◌≤◌, ◌<◌}
use native.Mathlib.Nat.{le_trans, le_of_eq}
use native.Mathlib.Omega.{arith}
use lib.IntN.{ℤ, pos, nat_abs, ◌+ℤ◌, ◌*ℤ◌}
use lib.Signed.{non_neg}
use borrow.Author.Tests.{ne_eqb}
use Rattle.ints.specs.Polynomial.{◌⊕◌, ◌⊗◌, #◌, ◌≐◌, solve2}
use Rattle.spec.specs.declared.Plan.{Plan}
use Rattle.spec.specs.Frame.{guide, frame_of}
use Rattle.spec.specs.Checks.{Planned}
use Rattle.spec.specs.Weight.{scaled_variance, monotone, variance, deviation, slope, offset}
use Rattle.spec.proofs.Plans.{facts, pixel-of, smoothing-of}
use Rattle.spec.proofs.Own.{weight-linear, total-guided}
use Rattle.spec.proofs.Bounds.{slope-abs, offset-abs, guided-abs, total-abs}
use Rattle.window.specs.declared.sums.Sums.{Sums}
use Rattle.window_weights.specs.declared.coefficients.Coefficients.{Coefficients}
use Rattle.window.specs.Sums.{SumsAt}
use Rattle.window_weights.specs.Coefficients.{WeighsAt, CoefficientsOf, CoefficientsSmall, ends_not_negative}

module _ {b : List ℕ} {z : Plan} (pl : Planned b z) (two : z.kind ≡ 2) where
  guided : (frame_of b).set.kind ≡ 2
  guided = sym (facts pl).kind ∙ two

  pub smoothing-high : z.smoothing ≤ 65025
  smoothing-high = let f = facts pl in le_trans (le_of_eq f.smoothing) (smoothing-of f.limits guided).1

  pub weighs : {s t g : ℕ} {a : Sums} {k : Coefficients} → s < z.width → t < z.height → SumsAt (frame_of b) s t a → g ≡ guide (frame_of b) s t →
      CoefficientsOf a z.smoothing g k → WeighsAt (frame_of b) s t k
  unfolding slope offset deviation variance scaled_variance
  weighs {s} {t} {g} {a} {k} hs ht v eg c =
      let f = facts pl in
      record {
        slope = c.slope ∙ rw (v.count, v.sum, eg) refl;
        offset = c.offset ∙ rw (v.count, v.sum, v.squares, eg, f.smoothing) refl;
        total = c.total ∙ rw (v.count, v.sum, v.squares, f.smoothing) (sym (total-guided (pixel-of pl hs ht) guided));
      }

  module _ {s t : ℕ} {k : Coefficients} (w : WeighsAt (frame_of b) s t k) where
    pub coefficients-small : s < z.width → t < z.height → CoefficientsSmall k
    coefficients-small hs ht =
        let q = pixel-of pl hs ht in
        let e = smoothing-of (facts pl).limits guided in
        record {
          slope = subst (λ (n : ℤ). nat_abs n ≤ 235497855) (sym w.slope) (slope-abs q);
          offset = subst (λ (n : ℤ). nat_abs n ≤ 180155859075) (sym w.offset) (offset-abs q e.0 e.1);
          total = subst (λ (n : ℤ). nat_abs n ≤ 173129780571075) (sym w.total) (total-abs q 180155859075 (guided-abs q guided));
        }

    pub ends-monotone : s < z.width → t < z.height → ends_not_negative k z.guides ≡ monotone (frame_of b) s t
    unfolding monotone ends_not_negative
    ends-monotone hs ht =
        let q = pixel-of pl hs ht in
        let f = facts pl in
        rw (
          ne_eqb (frame_of b).set.kind 1 (λ d. omega (arith, guided)),
          weight-linear q 0 guided,
          weight-linear q ((frame_of b).set.guides - 1) guided,
          w.slope,
          w.offset,
          f.guides,
        )
        (ap (λ (n : ℤ). non_neg n && non_neg (slope (frame_of b) s t *ℤ pos ((frame_of b).set.guides - 1) +ℤ offset (frame_of b) s t))
        (solve2 (λ c d. d ≐ c ⊗ # 0 ⊕ d) refl (slope (frame_of b) s t) (offset (frame_of b) s t)))
