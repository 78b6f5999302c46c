-- Laws of numbers X i of l levels: their balance from level to level, how large it can be, sums of such numbers; where none is negative, that the
-- balance never falls and is 0 where all are 0; and the level where a search ends.
-- Assumes nothing.
use mathlib.Core.Path.{◌≡◌, refl, sym, ap, ap₂, ◌∙◌}
use mathlib.Core.Bool.{true, false}
use mathlib.Core.Logic.{⊎_elim}
use Prim.Native.Nat.{ℕ, zero, suc, ◌+◌, ◌-◌, ◌≤◌, ◌<◌}
use native.Mathlib.Nat.{zero-add}
use native.Mathlib.Omega.{arith}
use lib.IntN.{ℤ, pos, nat_abs, ◌+ℤ◌, ◌-ℤ◌, ◌*ℤ◌, +ℤ_idl}
use lib.Signed.{◌≤ℤ◌, ◌<ℤ◌, le_z, ≤ℤ_refl, clash_ℤ}
use Rattle.ints.specs.Polynomial.{◌⊕◌, ◌⊖◌, ◌⊗◌, #◌, ◌≐◌, solve2, solve3, solve4}
use Rattle.ints.specs.Order.{add_parts, diff-parts, ≤-of-eq, ≤-<-trans, <-≤-trans, sub-mono, mul-mono-l, litℤ≤}
use Rattle.ints.specs.Linear.{ints}
use Rattle.ints.specs.Bound.{abs-sub-le}
use Rattle.spec.specs.Base.{fold, sum, sumℤ, distance}
use Rattle.spec.proofs.First.{first-unique}
use Rattle.spec.proofs.Ranges.{fold-parts, fold-both, fold_same, int_sums, nat_sums}
use Rattle.spec.proofs.Sums.{sum-scale, sum_zeros, sum_nonneg, sum-abs, sum-termℤ}
use Rattle.spec.proofs.Own.{is-zero, not-zero}
use Rattle.spec.proofs.Totals.{le-le_z, lt-le_z}
use Rattle.joint_pixel.proofs.BitLaws.{lt-or-le}
use Rattle.joint_search.specs.Levels.{cumulative_of, total_of, balance_of, weightless_of, median_of}
use Rattle.joint_search.specs.Search.{Climbed, Descended}

-- ---- from level to level
module _ (X : ℕ → ℤ) where
  pub cumulative-zero : cumulative_of X 0 ≡ X 0
  unfolding cumulative_of fold
  cumulative-zero = +ℤ_idl (X 0)

  pub cumulative-next : (i : ℕ) → cumulative_of X (suc i) ≡ cumulative_of X i +ℤ X (suc i)
  unfolding cumulative_of fold
  cumulative-next i = ap (λ (q : ℕ). sumℤ X 0 (suc i) +ℤ X q) (zero-add (suc i))

  pub balance-next : (l c : ℕ) → balance_of X l (suc c) ≡ balance_of X l c +ℤ pos 2 *ℤ X (suc c)
  unfolding balance_of
  balance-next l c =
      ap (λ (u : ℤ). pos 2 *ℤ u -ℤ total_of X l) (cumulative-next c)
      ∙ solve3 (λ u x a. # 2 ⊗ (u ⊕ x) ⊖ a ≐ (# 2 ⊗ u ⊖ a) ⊕ # 2 ⊗ x) refl (cumulative_of X c) (X (suc c)) (total_of X l)

  pub cumulative-last : (l : ℕ) → 0 < l → cumulative_of X (l - 1) ≡ total_of X l
  unfolding cumulative_of total_of
  cumulative-last l h = let e : suc (l - 1) ≡ l = omega arith in ap (sumℤ X 0) e

  pub balance-last : (l : ℕ) → 0 < l → balance_of X l (l - 1) ≡ total_of X l
  unfolding balance_of
  balance-last l h = ap (λ (u : ℤ). pos 2 *ℤ u -ℤ total_of X l) (cumulative-last l h) ∙ solve2 (λ u v. # 2 ⊗ u ⊖ u ≐ u) refl (total_of X l) (pos 0)

  -- each level has at most g: so has the balance of all together
  pub balance-size : (g : ℕ → ℕ) (l c : ℕ) → c < l → ((i : ℕ) → i < l → nat_abs (X i) ≤ g i) → nat_abs (balance_of X l c) ≤ sum g 0 l
  unfolding balance_of cumulative_of total_of
  balance-size g l c h low =
      let d : suc c + (l - suc c) ≡ l = omega arith in
      let A = sumℤ X 0 (suc c) in
      let R = sumℤ X (0 + suc c) (l - suc c) in
      let all : sumℤ X 0 l ≡ A +ℤ R = ap (sumℤ X 0) (sym d) ∙ fold-parts ◌+ℤ◌ (pos 0) int_sums X 0 (suc c) (l - suc c) in
      let same : pos 2 *ℤ A -ℤ sumℤ X 0 l ≡ A -ℤ R = ap (λ (q : ℤ). pos 2 *ℤ A -ℤ q) all ∙ solve2 (λ a r. # 2 ⊗ a ⊖ (a ⊕ r) ≐ a ⊖ r) refl A R in
      let most : sum g 0 (suc c) + sum g (0 + suc c) (l - suc c) ≡ sum g 0 l =
      sym (fold-parts ◌+◌ 0 nat_sums g 0 (suc c) (l - suc c)) ∙ ap (sum g 0) d in
      rw (same, sym most)
      (abs-sub-le A R (sum-abs X g 0 (suc c) (λ i x y. low i (omega arith))) (sum-abs X g (0 + suc c) (l - suc c) (λ i x y. low i (omega arith))))

-- ---- equal numbers
module _ {X Y : ℕ → ℤ} {l : ℕ} (same : (i : ℕ) → i < l → X i ≡ Y i) where
  pub total-same : total_of X l ≡ total_of Y l
  unfolding total_of
  total-same = fold_same ◌+ℤ◌ (pos 0) int_sums X Y 0 l (λ i x y. same i (omega arith))

  pub cumulative-same : (c : ℕ) → c < l → cumulative_of X c ≡ cumulative_of Y c
  unfolding cumulative_of
  cumulative-same c h = fold_same ◌+ℤ◌ (pos 0) int_sums X Y 0 (suc c) (λ i x y. same i (omega arith))

  pub balance-same : (c : ℕ) → c < l → balance_of X l c ≡ balance_of Y l c
  unfolding balance_of
  balance-same c h = ap₂ (λ (u v : ℤ). pos 2 *ℤ u -ℤ v) (cumulative-same c h) total-same

-- ---- sums
pub balance-add : (X Y : ℕ → ℤ) (l c : ℕ) → balance_of (λ i. X i +ℤ Y i) l c ≡ balance_of X l c +ℤ balance_of Y l c
unfolding balance_of cumulative_of total_of
balance-add X Y l c =
    ap₂ (λ (u v : ℤ). pos 2 *ℤ u -ℤ v) (fold-both ◌+ℤ◌ (pos 0) int_sums X Y 0 (suc c)) (fold-both ◌+ℤ◌ (pos 0) int_sums X Y 0 l)
    ∙ solve4 (λ a b u v. # 2 ⊗ (a ⊕ b) ⊖ (u ⊕ v) ≐ (# 2 ⊗ a ⊖ u) ⊕ (# 2 ⊗ b ⊖ v)) refl (sumℤ X 0 (suc c)) (sumℤ Y 0 (suc c)) (sumℤ X 0 l) (sumℤ Y 0 l)

pub balance-scale : (a : ℤ) (X : ℕ → ℤ) (l c : ℕ) → balance_of (λ i. a *ℤ X i) l c ≡ a *ℤ balance_of X l c
unfolding balance_of cumulative_of total_of
balance-scale a X l c =
    ap₂ (λ (u v : ℤ). pos 2 *ℤ u -ℤ v) (sum-scale a X 0 (suc c)) (sum-scale a X 0 l)
    ∙ solve3 (λ a u v. # 2 ⊗ (a ⊗ u) ⊖ a ⊗ v ≐ a ⊗ (# 2 ⊗ u ⊖ v)) refl a (sumℤ X 0 (suc c)) (sumℤ X 0 l)

balance-none : (l c : ℕ) → balance_of (λ i. pos 0) l c ≡ pos 0
unfolding balance_of cumulative_of total_of
balance-none l c = ap₂ (λ (u v : ℤ). pos 2 *ℤ u -ℤ v) (sum_zeros 0 (suc c)) (sum_zeros 0 l)

-- of n numbers each
pub balance-sum : (F : ℕ → ℕ → ℤ) (l c n : ℕ) → sumℤ (λ f. balance_of (λ i. F i f) l c) 0 n ≡ balance_of (λ i. sumℤ (F i) 0 n) l c
unfolding fold
balance-sum F l c zero = sym (balance-none l c)
balance-sum F l c (suc n) =
    ap (λ (q : ℤ). q +ℤ balance_of (λ i. F i (0 + n)) l c) (balance-sum F l c n) ∙ sym (balance-add (λ i. sumℤ (F i) 0 n) (λ i. F i (0 + n)) l c)

-- ---- all together 0, or more
pub weightless-all : {X : ℕ → ℤ} {l : ℕ} → ((i : ℕ) → i < l → X i ≡ pos 0) → true ≡ weightless_of X l
unfolding weightless_of total_of
weightless-all {X} {l} h = sym (is-zero (sumℤ X 0 l) (fold_same ◌+ℤ◌ (pos 0) int_sums X (λ i. pos 0) 0 l (λ i x y. h i (omega arith)) ∙ sum_zeros 0 l))

-- ---- where none is negative
module _ {X : ℕ → ℤ} {l : ℕ} (low : (i : ℕ) → i < l → pos 0 ≤ℤ X i) where
  pub total-low : pos 0 ≤ℤ total_of X l
  unfolding total_of
  total-low = sum_nonneg X 0 l (λ i x y. low i (omega arith))

  cumulative-low : (c : ℕ) → c < l → pos 0 ≤ℤ cumulative_of X c
  unfolding cumulative_of
  cumulative-low c h = sum_nonneg X 0 (suc c) (λ i x y. low i (omega arith))

  cumulative-mono : (i j : ℕ) → i ≤ j → j < l → cumulative_of X i ≤ℤ cumulative_of X j
  unfolding cumulative_of
  cumulative-mono i j h k =
      let d : suc i + (j - i) ≡ suc j = omega arith in
      let A = sumℤ X 0 (suc i) in
      let R = sumℤ X (0 + suc i) (j - i) in
      let e : sumℤ X 0 (suc j) ≡ A +ℤ R = ap (sumℤ X 0) (sym d) ∙ fold-parts ◌+ℤ◌ (pos 0) int_sums X 0 (suc i) (j - i) in
      let r : pos 0 ≤ℤ R = sum_nonneg X (0 + suc i) (j - i) (λ q x y. low q (omega arith)) in
      rw e (omega (arith, ints, add_parts A R))

  pub balance-mono : (i j : ℕ) → i ≤ j → j < l → balance_of X l i ≤ℤ balance_of X l j
  unfolding balance_of
  balance-mono i j h k = sub-mono (mul-mono-l (pos 2) (litℤ≤ tt) (cumulative-mono i j h k)) (≤ℤ_refl (total_of X l))

  -- a level that has something
  pub weightless-some : (i : ℕ) → i < l → pos 0 <ℤ X i → false ≡ weightless_of X l
  unfolding weightless_of total_of
  weightless-some i h p =
      let part : X i ≤ℤ sumℤ X 0 l = sum-termℤ X 0 l i (λ j x y. low j (omega arith)) (omega arith) (omega arith) in
      sym (not-zero (sumℤ X 0 l) (λ e. clash_ℤ (<-≤-trans p part) (≤-of-eq e)))

-- ---- where a search ends
module _ (X : ℕ → ℤ) (l : ℕ) where
  half-reached : (i : ℕ) → pos 0 ≤ℤ balance_of X l i → total_of X l ≤ℤ (pos 2 *ℤ cumulative_of X i)
  unfolding balance_of
  half-reached i h = omega (arith, ints, diff-parts (pos 2 *ℤ cumulative_of X i) (total_of X l))

  half-missed : (i : ℕ) → balance_of X l i <ℤ pos 0 → (pos 2 *ℤ cumulative_of X i) <ℤ total_of X l
  unfolding balance_of
  half-missed i h = omega (arith, ints, diff-parts (pos 2 *ℤ cumulative_of X i) (total_of X l))

  pub median-is : (r : ℕ) → r < l → pos 0 ≤ℤ balance_of X l r → ((i : ℕ) → i < r → balance_of X l i <ℤ pos 0) → r ≡ median_of X l
  unfolding median_of
  median-is r h here before =
      sym
      (first-unique (λ i. le_z (total_of X l) (pos 2 *ℤ cumulative_of X i)) l r
      (record { within = omega arith; passes = λ _. le-le_z (half-reached r here); before = λ i k. lt-le_z (half-missed i (before i k)) }))

module _ {X : ℕ → ℤ} {l : ℕ} (low : (i : ℕ) → i < l → pos 0 ≤ℤ X i) where
  pub climbed-median : {c r : ℕ} → balance_of X l c <ℤ pos 0 → Climbed (balance_of X l) l c r → r ≡ median_of X l
  climbed-median {c} {r} below k =
      median-is X l r k.level k.here
      (λ i u. ⊎_elim (λ x. ≤-<-trans (balance-mono low i c (omega arith) (omega (arith, k.from, k.level))) below) (λ x. k.before i x u)
      (lt-or-le i c))

  pub descended-median : {c r : ℕ} → c < l → Descended (balance_of X l) c r → r ≡ median_of X l
  descended-median {c} {r} h k =
      let inside : r < l = omega (arith, k.upto) in
      median-is X l r inside k.here
      (λ i u. ≤-<-trans (balance-mono low i (r - 1) (omega arith) (omega arith)) (k.below (r - 1) (omega arith)))

-- one shift for each level is the distance
pub climbed-shifts : (n : ℕ) {B : ℕ → ℤ} {l c r n' : ℕ} → Climbed B l c r → n' + c ≡ n + r → n' ≡ n + distance r c
climbed-shifts n k e = omega (arith, k.from)

pub descended-shifts : (n : ℕ) {B : ℕ → ℤ} {c r n' : ℕ} → Descended B c r → n' + r ≡ n + c → n' ≡ n + distance r c
descended-shifts n k e = omega (arith, k.upto)
