-- Blocks of 16 levels: up to the end of a block they weigh together what its levels and those below weigh; so the answer of a monotone window is in
-- the first block whose end reaches half, and way 4 counts the blocks below it and the levels inside.
-- Assumes nothing.
use mathlib.Core.Path.{◌≡◌, refl, sym, ap, ◌∙◌}
use mathlib.Core.Bool.{true}
use Prim.Native.Nat.{ℕ, zero, suc, ◌+◌, ◌*◌, ◌/◌, ◌≤◌, ◌<◌}
use native.Mathlib.Omega.{arith}
use native.Mathlib.Decide.{dec_le, ℕ_discrete}
use lib.Dec.{eqb, leb}
use lib.IntN.{ℤ, pos, ◌+ℤ◌, ◌*ℤ◌, +ℤ_idl, +ℤ_idr}
use lib.Signed.{le_z}
use borrow.Author.Tests.{eq-eqb, ne_eqb, le-leb, lt-leb}
use Rattle.ints.specs.Order.{≤_trans}
use Rattle.std.specs.Prelude.{if◌then◌else◌}
use Rattle.spec.specs.Base.{fold, sumℤ}
use Rattle.spec.specs.Frame.{Frame, level, guide}
use Rattle.spec.specs.Weight.{weight, monotone}
use Rattle.spec.specs.Median.{total_weight, cumulative, median}
use Rattle.spec.specs.Coarse.{block_count, block_weight, first_block}
use Rattle.spec.proofs.First.{first-unique}
use Rattle.spec.proofs.Ranges.{int_sums}
use Rattle.spec.proofs.Sums.{over-in_window}
use Rattle.spec.proofs.Histogram.{over-fold}
use Rattle.spec.proofs.Limits.{Pixel}
use Rattle.spec.proofs.Totals.{le-le_z, lt-le_z, balance-le, balance-lt, median-at, median-low, median-before}
use Rattle.spec.proofs.Monotone.{monotone-none, balance-mono}

-- ---- of the first n numbers, v is one or none
none_is : (n v : ℕ) (w : ℤ) → n ≤ v → sumℤ (λ i. if eqb v i then w else pos 0) 0 n ≡ pos 0
unfolding fold
none_is zero v w h = refl
none_is (suc n) v w h = rw (ne_eqb v (0 + n) (λ e. omega arith), none_is n v w (omega arith)) refl

one-is : (n v : ℕ) (w : ℤ) → v < n → sumℤ (λ i. if eqb v i then w else pos 0) 0 n ≡ w
unfolding fold
one-is zero v w h = absurd (omega arith)
one-is (suc n) v w h = go (ℕ_discrete v n) (λ k. one-is n v w k)
  where
    go : Dec (v ≡ n) → (v < n → sumℤ (λ i. if eqb v i then w else pos 0) 0 n ≡ w)
        → sumℤ (λ i. if eqb v i then w else pos 0) 0 n +ℤ (if eqb v (0 + n) then w else pos 0) ≡ w
    go (yes e) ih = rw (eq-eqb v (0 + n) (omega arith), none_is n v w (omega arith)) (+ℤ_idl w)
    go (no e) ih = rw (ne_eqb v (0 + n) (λ d. e (omega arith)), ih (omega arith)) (+ℤ_idr w)

-- a level is at most block b's last one exactly if its block is one of the first b + 1
up_to : (b v : ℕ) (w : ℤ) → (if leb v (16 * b + 15) then w else pos 0) ≡ sumℤ (λ i. if eqb (v / 16) i then w else pos 0) 0 (suc b)
up_to b v w = go (dec_le v (16 * b + 15))
  where
    go : Dec (v ≤ 16 * b + 15) → (if leb v (16 * b + 15) then w else pos 0) ≡ sumℤ (λ i. if eqb (v / 16) i then w else pos 0) 0 (suc b)
    go (yes h) = rw (le-leb v (16 * b + 15) h) (sym (one-is (suc b) (v / 16) w (omega arith)))
    go (no h) = rw (lt-leb v (16 * b + 15) (omega arith)) (sym (none_is (suc b) (v / 16) w (omega arith)))

pub block-cumulative : (p : Frame) (s t b : ℕ) → cumulative p s t (16 * b + 15) ≡ sumℤ (block_weight p s t) 0 (suc b)
unfolding cumulative block_weight
block-cumulative p s t b =
    over-in_window ◌+ℤ◌ (pos 0) int_sums p s t _ _ (λ x y q. up_to b (level p x y) (weight p s t (guide p x y)))
    ∙ over-fold ◌+ℤ◌ (pos 0) int_sums p s t (λ i x y. if eqb (level p x y / 16) i then weight p s t (guide p x y) else pos 0) (suc b)

-- ---- the answer's block
pub first_block_lem : {p : Frame} {s t : ℕ} → Pixel p s t → monotone p s t ≡ true → first_block p s t ≡ median p s t / 16
unfolding first_block
first_block_lem {p} {s} {t} k e =
    let m = median p s t in
    let low = median-low k in
    let test : (b : ℕ) → le_z (total_weight p s t) (pos 2 *ℤ sumℤ (block_weight p s t) 0 (suc b))
    ≡ le_z (total_weight p s t) (pos 2 *ℤ cumulative p s t (16 * b + 15)) =
    λ b. ap (λ (q : ℤ). le_z (total_weight p s t) (pos 2 *ℤ q)) (sym (block-cumulative p s t b)) in
    first-unique (λ b. le_z (total_weight p s t) (pos 2 *ℤ sumℤ (block_weight p s t) 0 (suc b))) (block_count p.set) (m / 16)
    (record {
      within = omega arith;
      passes = λ _. test (m / 16) ∙ le-le_z (balance-le p s t (16 * (m / 16) + 15)
          (≤_trans (median-at k) (balance-mono p s t (monotone-none k e) m (16 * (m / 16) + 15) (omega arith))));
      before = λ a h. test a ∙ lt-le_z (balance-lt p s t (16 * a + 15) (median-before p s t (16 * a + 15) (omega arith)));
    })
