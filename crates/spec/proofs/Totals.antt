-- Which level the median is: the one whose balance is the first that is not negative. There is one, because T is not negative. And what is answered.
-- Assumes nothing.
use mathlib.Core.Path.{◌≡◌, refl, sym, ap, ◌∙◌, subst}
use mathlib.Core.Bool.{Bool, true, false, true≢false}
use mathlib.Core.Logic.{◌⊎◌, inl, inr}
use Prim.Native.Nat.{ℕ, ◌-◌, ◌<◌}
use native.Mathlib.Omega.{arith}
use native.Mathlib.Decide.{dec_lt}
use lib.Dec.{T}
use lib.IntN.{ℤ, pos, negsuc, ◌-ℤ◌, ◌*ℤ◌}
use lib.Signed.{◌≤ℤ◌, ◌<ℤ◌, le_z, non_neg, clash_ℤ}
use Rattle.ints.specs.Order.{diff-parts, ≤-or->, 0≤pos}
use Rattle.ints.specs.Linear.{ints}
use Rattle.ints.specs.Polynomial.{◌⊖◌, ◌⊗◌, #◌, ◌≐◌, solve1}
use Rattle.spec.specs.declared.Settings.{Settings}
use Rattle.spec.specs.Frame.{Frame, no_reading}
use Rattle.spec.specs.Window.{empty}
use Rattle.spec.specs.Median.{total_weight, cumulative, balance, median, answer}
use Rattle.spec.proofs.First.{First, first-is, first-unique}
use Rattle.spec.specs.Checks.{SettingsLimits}
use Rattle.spec.proofs.Limits.{FrameLimits, Pixel}
use Rattle.spec.proofs.Own.{total-low}
use Rattle.spec.proofs.Levels.{cumulative-last}

-- ---- tests of integers
T_true : (b : Bool) → T b → b ≡ true
T_true true h = refl
T_true false h = absurd h

pub le-le_z : {a b : ℤ} → a ≤ℤ b → le_z a b ≡ true
le-le_z {a} {b} h = T_true (le_z a b) h.le

pub le_z-le : (a b : ℤ) → le_z a b ≡ true → a ≤ℤ b
le_z-le a b e = record { le = subst T (sym e) tt }

pub le_z-lt : (a b : ℤ) → le_z a b ≡ false → b <ℤ a
le_z-lt a b e = go (≤-or-> a b)
  where
    go : (a ≤ℤ b) ⊎ (b <ℤ a) → b <ℤ a
    go (inl h) = absurd (true≢false (sym (le-le_z h) ∙ e))
    go (inr h) = h

pub lt-le_z : {a b : ℤ} → b <ℤ a → le_z a b ≡ false
lt-le_z {a} {b} h = go (le_z a b) refl
  where
    go : (c : Bool) → le_z a b ≡ c → c ≡ false
    go true e = clash_ℤ h (le_z-le a b e)
    go false e = refl

pub non_neg-le : (z : ℤ) → non_neg z ≡ true → pos 0 ≤ℤ z
non_neg-le (pos n) e = 0≤pos
non_neg-le (negsuc n) e = absurd (true≢false (sym e))

-- ---- the answer's level, by the balance
pub balance-le : (p : Frame) (s t i : ℕ) → pos 0 ≤ℤ balance p s t i → total_weight p s t ≤ℤ (pos 2 *ℤ cumulative p s t i)
unfolding balance
balance-le p s t i h = omega (arith, ints, diff-parts (pos 2 *ℤ cumulative p s t i) (total_weight p s t))

pub le-balance : (p : Frame) (s t i : ℕ) → total_weight p s t ≤ℤ (pos 2 *ℤ cumulative p s t i) → pos 0 ≤ℤ balance p s t i
unfolding balance
le-balance p s t i h = omega (arith, ints, diff-parts (pos 2 *ℤ cumulative p s t i) (total_weight p s t))

pub lt-balance : (p : Frame) (s t i : ℕ) → (pos 2 *ℤ cumulative p s t i) <ℤ total_weight p s t → balance p s t i <ℤ pos 0
unfolding balance
lt-balance p s t i h = omega (arith, ints, diff-parts (pos 2 *ℤ cumulative p s t i) (total_weight p s t))

pub balance-lt : (p : Frame) (s t i : ℕ) → balance p s t i <ℤ pos 0 → (pos 2 *ℤ cumulative p s t i) <ℤ total_weight p s t
unfolding balance
balance-lt p s t i h = omega (arith, ints, diff-parts (pos 2 *ℤ cumulative p s t i) (total_weight p s t))

pub median-first : (p : Frame) (s t : ℕ) → First (λ i. le_z (total_weight p s t) (pos 2 *ℤ cumulative p s t i)) p.set.levels (median p s t)
unfolding median
median-first p s t = first-is (λ i. le_z (total_weight p s t) (pos 2 *ℤ cumulative p s t i)) p.set.levels

-- below the answer the balance is negative
pub median-before : (p : Frame) (s t i : ℕ) → i < median p s t → balance p s t i <ℤ pos 0
median-before p s t i h = lt-balance p s t i (le_z-lt (total_weight p s t) (pos 2 *ℤ cumulative p s t i) ((median-first p s t).before i h))

-- at the last level the balance is T
pub balance-last : {p : Frame} {s t : ℕ} → Pixel p s t → balance p s t (p.set.levels - 1) ≡ total_weight p s t
unfolding balance
balance-last {p} {s} {t} k =
    ap (λ (u : ℤ). pos 2 *ℤ u -ℤ total_weight p s t) (cumulative-last k) ∙ solve1 (λ u. # 2 ⊗ u ⊖ u ≐ u) refl (total_weight p s t)

pub median-low : {p : Frame} {s t : ℕ} → Pixel p s t → median p s t < p.set.levels
median-low {p} {s} {t} k = go (dec_lt (median p s t) p.set.levels)
  where
    go : Dec (median p s t < p.set.levels) → median p s t < p.set.levels
    go (yes h) = h
    go (no h) =
        clash_ℤ (median-before p s t (p.set.levels - 1) (omega (arith, k.good.sound.levels_low)))
        (subst (λ (z : ℤ). pos 0 ≤ℤ z) (sym (balance-last k)) (total-low k))

pub median-at : {p : Frame} {s t : ℕ} → Pixel p s t → pos 0 ≤ℤ balance p s t (median p s t)
median-at {p} {s} {t} k =
    le-balance p s t (median p s t)
    (le_z-le (total_weight p s t) (pos 2 *ℤ cumulative p s t (median p s t)) ((median-first p s t).passes (median-low k)))

-- a level that passes, with none before it that does, is the answer
pub median-is : (p : Frame) (s t m : ℕ) → m < p.set.levels → pos 0 ≤ℤ balance p s t m → ((i : ℕ) → i < m → balance p s t i <ℤ pos 0) →
    median p s t ≡ m
unfolding median
median-is p s t m h b before =
    first-unique (λ i. le_z (total_weight p s t) (pos 2 *ℤ cumulative p s t i)) p.set.levels m
    (record { within = omega arith; passes = λ l. le-le_z (balance-le p s t m b); before = λ i l. lt-le_z (balance-lt p s t i (before i l)) })

-- the answer is a level where there is a reading
pub answer-median : (p : Frame) (s t : ℕ) → empty p s t ≡ false → answer p s t ≡ median p s t
unfolding answer
answer-median p s t e = rw e refl

pub answer-empty : (p : Frame) (s t : ℕ) → empty p s t ≡ true → answer p s t ≡ no_reading
unfolding answer
answer-empty p s t e = rw e refl

pub answer-low : {p : Frame} {s t : ℕ} → Pixel p s t → (answer p s t < p.set.levels) ⊎ (answer p s t ≡ no_reading)
answer-low {p} {s} {t} k = go (empty p s t) refl
  where
    go : (b : Bool) → empty p s t ≡ b → (answer p s t < p.set.levels) ⊎ (answer p s t ≡ no_reading)
    go true e = inr (answer-empty p s t e)
    go false e = inl (rw (answer-median p s t e) (median-low k))
