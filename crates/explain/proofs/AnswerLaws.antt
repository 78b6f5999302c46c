-- The sums of a window's levels are U, so the first that reaches half is at the answer; and the grounds where there is no reading.
-- Assumes nothing.
use mathlib.Core.Path.{◌≡◌, refl, sym, ap, ap₂, ◌∙◌, subst}
use mathlib.Core.Bool.{true, false}
use mathlib.Core.Logic.{⊎_elim}
use mathlib.Core.List.{List}
use Prim.Native.Nat.{ℕ, zero, suc, ◌-◌, ◌≤◌, ◌<◌}
use native.Mathlib.Nat.{div-one, div-le_self}
use native.Mathlib.Omega.{arith}
use lib.Dec.{eqb}
use lib.ListN.{length, get_or, replicate, length-replicate}
use lib.IntN.{ℤ, pos, nat_abs, ◌+ℤ◌, ◌-ℤ◌, ◌*ℤ◌}
use lib.Signed.{◌≤ℤ◌, ◌<ℤ◌}
use Rattle.ints.specs.Order.{lt-or-le}
use Rattle.std.proofs.lemmas.Int.{ints}
use Rattle.std.specs.Prelude.{if◌then◌else◌}
use Rattle.spec.specs.declared.Answer.{Answer}
use Rattle.spec.specs.declared.Cause.{Cause}
use Rattle.spec.specs.Frame.{Frame, level, guide}
use Rattle.spec.specs.Window.{empty}
use Rattle.spec.specs.Weight.{weight}
use Rattle.spec.specs.Median.{total_weight, cumulative, balance, answer}
use Rattle.spec.specs.Explain.{cumulative_below, cause_of, Grounded}
use Rattle.spec.proofs.Ranges.{int_sums}
use Rattle.spec.proofs.Sums.{over-in_window}
use Rattle.spec.proofs.Limits.{Pixel}
use Rattle.spec.proofs.Own.{total-pos, empty-count, total-empty, cumulative-empty}
use Rattle.spec.proofs.Levels.{level_weight, cumulative-all, cumulative-last}
use Rattle.spec.proofs.Totals.{median-is, le-balance, lt-balance, answer-median, answer-empty}
use Rattle.spec.proofs.Bounds.{total-abs, level-abs, cumulative-abs}
use Rattle.spec.proofs.Climb.{cumulative_below-zero, cumulative_below-suc, cumulative_below-next}
use Rattle.balance.specs.declared.formula.Formula.{Formula}
use Rattle.balance.specs.Formula.{Weighs}
use Rattle.balance.specs.Balance.{balance_by}
use Rattle.balance.proofs.BalanceLaws.{by-balance}
use Rattle.weight_sums.specs.Sums.{block_of, weight_in, BlocksFit, Gathered}
use Rattle.explain.specs.declared.Answered.{Answered}
use Rattle.explain_half.specs.Half.{up_to, HalfInReach, HalfReached}
use Rattle.explain_half.proofs.HalfLaws.{up_to-none, up_to-next}
use Rattle.explain.specs.Answer.{AnswerReached}

-- ---- T and U have 64 bits
weights-low : (p : Frame) (s t : ℕ) {row : List ℕ} {formula : Formula} → Weighs p s t row formula → (f : ℕ) → f < p.set.guides
    → nat_abs (weight p s t f) ≤ 180155859075
weights-low p s t w f h = rw (w.is f h) (w.fits.low f h)

pub total_small : {p : Frame} {s t : ℕ} → Pixel p s t → {row : List ℕ} {formula : Formula} → Weighs p s t row formula
    → nat_abs (total_weight p s t) ≤ 173129780571075
total_small {p} {s} {t} k w = omega (arith, total-abs k 180155859075 (weights-low p s t w))

-- at a level above all the balance by the weights is T
pub total-gathered : {p : Frame} {s t : ℕ} → Pixel p s t → {row : List ℕ} {formula : Formula} → Weighs p s t row formula
    → balance_by p s t row formula 65535 ≡ total_weight p s t
unfolding balance
total-gathered {p} {s} {t} k w =
    by-balance k w 65535
    ∙ ap (λ (u : ℤ). pos 2 *ℤ u -ℤ total_weight p s t)
    (cumulative-all p s t 65535 (λ x y h. omega (arith, k.good.level-low x y h.wide h.high h.read, k.good.sound.levels_high)))
    ∙ omega (arith, ints)

pub reached-small : {p : Frame} {s t : ℕ} → Pixel p s t → {row : List ℕ} {formula : Formula} → Weighs p s t row formula → (i : ℕ)
    → nat_abs (cumulative p s t i) ≤ 173129780571075
reached-small {p} {s} {t} k w i = omega (arith, cumulative-abs k 180155859075 (weights-low p s t w) i)

pub below-small : {p : Frame} {s t : ℕ} → Pixel p s t → {row : List ℕ} {formula : Formula} → Weighs p s t row formula → (i : ℕ)
    → nat_abs (cumulative_below p s t i) ≤ 173129780571075
below-small {p} {s} {t} k w zero = rw (cumulative_below-zero p s t) (omega arith)
below-small {p} {s} {t} k w (suc i) = rw (cumulative_below-suc p s t i) (reached-small k w i)

-- ---- a window's levels, where there is a reading
module _ {p : Frame} {s t : ℕ} (k : Pixel p s t) (read : empty p s t ≡ false) {xs ys : List ℤ} (g : Gathered 1 p s t xs ys) where
  by_level : (i : ℕ) → get_or ys i (pos 0) ≡ level_weight p s t i
  unfolding weight_in block_of level_weight
  by_level i =
      g.blocks i
      ∙ over-in_window ◌+ℤ◌ (pos 0) int_sums p s t _ _
      (λ x y h. ap (λ (n : ℕ). if eqb n i then weight p s t (guide p x y) else pos 0) (div-one (level p x y)))

  pub below_is : (i : ℕ) → up_to ys i ≡ cumulative_below p s t i
  below_is zero = up_to-none ys ∙ sym (cumulative_below-zero p s t)
  below_is (suc i) =
      up_to-next ys i ∙ ap₂ ◌+ℤ◌ (below_is i) (by_level i) ∙ sym (cumulative_below-next p s t i) ∙ sym (cumulative_below-suc p s t i)

  pub reached_is : (i : ℕ) → up_to ys (suc i) ≡ cumulative p s t i
  reached_is i = below_is (suc i) ∙ cumulative_below-suc p s t i

  -- no sum is too large, and all of them reach T
  pub in_reach : {row : List ℕ} {formula : Formula} → Weighs p s t row formula → length xs ≡ 1024 → HalfInReach ys (total_weight p s t)
  in_reach w long = record {
    sums = record {
      few = omega (arith, g.long);
      each = λ i h. rw (by_level i) (omega (arith, level-abs k 180155859075 (weights-low p s t w) i));
    };
    small = λ i h. rw (below_is i) (below-small k w i);
    positive = total-pos k read;
    total_small = total_small k w;
    reaches = subst (λ (u : ℤ). total_weight p s t ≤ℤ (pos 2 *ℤ u)) (sym all)
        (let h = total-pos k read in omega (arith, ints));
  }
    where
      all : up_to ys (length ys) ≡ total_weight p s t
      all = ap (up_to ys) (g.long ∙ long) ∙ reached_is 1023
          ∙ cumulative-all p s t 1023 (λ x y h. omega (arith, k.good.level-low x y h.wide h.high h.read, k.good.sound.levels_high))

  -- the level found is the answer
  pub answer-found : {r : Answered} → r.total ≡ total_weight p s t → HalfReached ys (total_weight p s t) r.half → AnswerReached p s t r
  answer-found {r} e h = record {
    total = e;
    level = sym is;
    below = h.below ∙ below_is m ∙ ap (cumulative_below p s t) (sym is);
    reached = h.reached ∙ reached_is m ∙ ap (cumulative p s t) (sym is);
  }
    where
      m : ℕ
      m = r.half.level.0

      short : (i : ℕ) → i < m → (pos 2 *ℤ cumulative p s t i) <ℤ total_weight p s t
      short i l = subst (λ (u : ℤ). (pos 2 *ℤ u) <ℤ total_weight p s t) (reached_is i) (h.lowest i l)

      -- the last level reaches T
      inside : m < p.set.levels
      inside = ⊎_elim (λ l. l) (λ l. clash (short (p.set.levels - 1) (omega (arith, k.good.sound.levels_low)))) (lt-or-le m p.set.levels)
        where
          clash : (pos 2 *ℤ cumulative p s t (p.set.levels - 1)) <ℤ total_weight p s t → m < p.set.levels
          clash q =
              let h = total-pos k read in
              let z = subst (λ (u : ℤ). (pos 2 *ℤ u) <ℤ total_weight p s t) (cumulative-last k) q in
              absurd (omega (arith, ints))

      is : answer p s t ≡ m
      is = answer-median p s t read
          ∙ median-is p s t m inside
          (le-balance p s t m (subst (λ (u : ℤ). total_weight p s t ≤ℤ (pos 2 *ℤ u)) (h.reached ∙ reached_is m) h.reaches))
          (λ i l. lt-balance p s t i (short i l))

-- ---- where there is none
below-empty : (p : Frame) (s t i : ℕ) → empty p s t ≡ true → cumulative_below p s t i ≡ pos 0
below-empty p s t zero e = cumulative_below-zero p s t
below-empty p s t (suc i) e = cumulative_below-suc p s t i ∙ cumulative-empty p s t i e

cause-empty : (p : Frame) (s t : ℕ) → empty p s t ≡ true → cause_of p s t ≡ Cause.Empty
unfolding cause_of
cause-empty p s t e = rw e refl

pub grounds-empty : (p : Frame) (s t : ℕ) → empty p s t ≡ true
    → Grounded p s t (record { pixels = 0; total = pos 0; answer = Answer.NoReading; below = pos 0; reached = pos 0; cause = Cause.Empty })
grounds-empty p s t e = record {
  pixels = sym (empty-count p s t e);
  total = sym (total-empty p s t e);
  answered = sym (answer-empty p s t e);
  below = sym (below-empty p s t (answer p s t) e);
  reached = sym (cumulative-empty p s t (answer p s t) e);
  cause = sym (cause-empty p s t e);
}

-- ---- the array of sums
pub levels-fit : (width : ℕ) {levels : ℕ} → levels ≤ 1024 → BlocksFit width levels (replicate 1024 (pos 0))
unfolding block_of
levels-fit width h = record { inside = λ i l. omega (arith, div-le_self i width, length-replicate {A = ℤ} 1024 (pos 0)) }
