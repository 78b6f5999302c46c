-- How each way finds the answer: from the cut, from level 0 upward, and along the chain's entries.
-- Assumes nothing.
use mathlib.Core.Path.{◌≡◌, refl, sym, ap, ap₂, ◌∙◌, subst}
use mathlib.Core.Bool.{Bool, true, false}
use mathlib.Core.List.{List, [], ◌∷◌, ◌++◌, append_assoc}
use Prim.Native.Nat.{ℕ, zero, suc, ◌+◌, ◌-◌, ◌≤◌, ◌<◌}
use native.Mathlib.Nat.{add-suc, suc-add, add-zero, zero-add}
use native.Mathlib.Omega.{arith}
use native.Mathlib.Decide.{dec_lt, ℕ_discrete}
use lib.Dec.{eqb}
use lib.IntN.{ℤ, pos, ◌+ℤ◌, ◌*ℤ◌, +ℤ_idr, +ℤ_idl}
use lib.Signed.{◌<ℤ◌, le_z, clash_ℤ}
use borrow.Author.Tests.{eqb-true}
use Rattle.std.specs.Prelude.{if◌then◌else◌}
use Rattle.spec.specs.declared.Settings.{Settings}
use Rattle.spec.specs.Frame.{Frame, guide}
use Rattle.spec.specs.Median.{total_weight, cumulative, balance, median}
use Rattle.spec.specs.Window.{empty, level_sum}
use Rattle.spec.specs.Chain.{Entry, entries, entry_of}
use Rattle.spec.specs.Explain.{cumulative_below}
use Rattle.spec.specs.Checks.{SettingsLimits}
use Rattle.spec.proofs.Limits.{FrameLimits, Pixel}
use Rattle.spec.specs.Weight.{slope, offset}
use Rattle.spec.proofs.Own.{total-pos}
use Rattle.spec.proofs.Levels.{level_weight, cumulative-zero, cumulative-next, level-linear}
use Rattle.spec.proofs.Totals.{
  le_z-le,
  le_z-lt,
  median-at,
  median-low,
  median-is,
  le-balance,
  lt-balance,
  balance-lt,
}
use Rattle.spec.proofs.Present.{level_count, absent-weight}

-- ---- from level 0 upward: U below level a
pub cumulative_below-zero : (p : Frame) (s t : ℕ) → cumulative_below p s t 0 ≡ pos 0
unfolding cumulative_below
cumulative_below-zero p s t = refl

pub cumulative_below-suc : (p : Frame) (s t a : ℕ) → cumulative_below p s t (suc a) ≡ cumulative p s t a
unfolding cumulative_below
cumulative_below-suc p s t a = refl

pub cumulative_below-next : (p : Frame) (s t a : ℕ) → cumulative p s t a ≡ cumulative_below p s t a +ℤ level_weight p s t a
unfolding cumulative_below
cumulative_below-next p s t zero = cumulative-zero p s t ∙ sym (+ℤ_idl (level_weight p s t 0))
cumulative_below-next p s t (suc a) = cumulative-next p s t a

-- the levels below a have failed
abbrev pub Failed : Frame → ℕ → ℕ → ℕ → Type 0
Failed p s t a = (i : ℕ) → i < a → balance p s t i <ℤ pos 0

pub failed-zero : (p : Frame) (s t : ℕ) → Failed p s t 0
failed-zero p s t i h = absurd (omega arith)

pub failed-next : (p : Frame) (s t a : ℕ) → Failed p s t a → balance p s t a <ℤ pos 0 → Failed p s t (suc a)
failed-next p s t a f b i h = go (ℕ_discrete i a)
  where
    go : Dec (i ≡ a) → balance p s t i <ℤ pos 0
    go (yes e) = subst (λ (n : ℕ). balance p s t n <ℤ pos 0) (sym e) b
    go (no e) = f i (omega arith)

-- not all levels fail
pub failed-low : {p : Frame} {s t : ℕ} → Pixel p s t → (a : ℕ) → Failed p s t a → a ≤ median p s t
failed-low {p} {s} {t} k a f = go (dec_lt (median p s t) a)
  where
    go : Dec (median p s t < a) → a ≤ median p s t
    go (yes h) = clash_ℤ (f (median p s t) h) (median-at k)
    go (no h) = omega arith

-- the test that the code makes at level a, with U in hand
pub climb-found : (p : Frame) (s t a : ℕ) → Failed p s t a → a < p.set.levels
    → le_z (total_weight p s t) (pos 2 *ℤ cumulative p s t a) ≡ true → median p s t ≡ a
climb-found p s t a f h e = median-is p s t a h (le-balance p s t a (le_z-le _ _ e)) f

pub climb-on : (p : Frame) (s t a : ℕ) → Failed p s t a → le_z (total_weight p s t) (pos 2 *ℤ cumulative p s t a) ≡ false → Failed p s t (suc a)
climb-on p s t a f e = failed-next p s t a f (lt-balance p s t a (le_z-lt (total_weight p s t) (pos 2 *ℤ cumulative p s t a) e))

-- a level that the window lacks is passed over
pub climb-over : (p : Frame) (s t a : ℕ) → pos 0 <ℤ total_weight p s t → Failed p s t a → level_count p s t a ≡ 0
    → (cumulative_below p s t (suc a) ≡ cumulative_below p s t a) × Failed p s t (suc a)
climb-over p s t a h f e =
    let same : cumulative p s t a ≡ cumulative_below p s t a =
    cumulative_below-next p s t a ∙ ap (λ (q : ℤ). cumulative_below p s t a +ℤ q) (absent-weight p s t a e) ∙ +ℤ_idr (cumulative_below p s t a) in
    (cumulative_below-suc p s t a ∙ same, failed-next p s t a f (go a f same))
  where
    go : (n : ℕ) → Failed p s t n → cumulative p s t n ≡ cumulative_below p s t n → balance p s t n <ℤ pos 0
    go zero g same =
        let z : cumulative p s t 0 ≡ pos 0 = same ∙ cumulative_below-zero p s t in
        lt-balance p s t 0 (subst (λ (q : ℤ). (pos 2 *ℤ q) <ℤ total_weight p s t) (sym z) h)
    go (suc j) g same =
        lt-balance p s t (suc j)
        (subst (λ (q : ℤ). (pos 2 *ℤ q) <ℤ total_weight p s t) (sym (same ∙ cumulative_below-suc p s t j)) (balance-lt p s t j (g j (omega arith))))

-- ---- along the chain: the first entry at which twice the weight so far reaches T; c and d weigh an entry, u is the weight before it
unfoldable pub climb : ℤ → ℤ → ℤ → ℤ → List Entry → ℕ
climb whole c d u [] = 0
climb whole c d u (e ∷ es) =
    let v = u +ℤ (c *ℤ pos e.guides +ℤ d *ℤ pos e.count) in
    let next = climb whole c d v es in
    if le_z whole (pos 2 *ℤ v) then e.level else next

-- the entries from level a on, n levels, first to last
unfoldable pub entries_from : Frame → ℕ → ℕ → ℕ → ℕ → List Entry
entries_from p s t a zero = []
entries_from p s t a (suc n) = entry_of p s t a ++ entries_from p s t (suc a) n

append-nil : (l : List Entry) → l ++ [] ≡ l
append-nil [] = refl
append-nil (e ∷ l) = ap (λ (r : List Entry). e ∷ r) (append-nil l)

from_last : (p : Frame) (s t a n : ℕ) → entries_from p s t a (suc n) ≡ entries_from p s t a n ++ entry_of p s t (a + n)
unfolding entries_from
from_last p s t a zero = append-nil (entry_of p s t a) ∙ ap (entry_of p s t) (sym (add-zero a))
from_last p s t a (suc n) =
    ap (λ (r : List Entry). entry_of p s t a ++ r) (from_last p s t (suc a) n)
    ∙ sym (append_assoc (entry_of p s t a) (entries_from p s t (suc a) n) (entry_of p s t (suc a + n)))
    ∙ ap (λ (k : ℕ). (entry_of p s t a ++ entries_from p s t (suc a) n) ++ entry_of p s t k) (suc-add a n ∙ sym (add-suc a n))

pub entries_from_lem : (p : Frame) (s t n : ℕ) → entries p s t n ≡ entries_from p s t 0 n
unfolding entries entries_from
entries_from_lem p s t zero = refl
entries_from_lem p s t (suc n) =
    ap (λ (r : List Entry). r ++ entry_of p s t n) (entries_from_lem p s t n) ∙ ap (λ (k : ℕ). entries_from p s t 0 n ++ entry_of p s t k) (sym (zero-add n))
    ∙ sym (from_last p s t 0 n)

pub climb-from : {p : Frame} {s t : ℕ} → Pixel p s t → empty p s t ≡ false → p.set.kind ≡ 2 → (n a : ℕ) → a + n ≡ p.set.levels
    → Failed p s t a
    → climb (total_weight p s t) (slope p s t) (offset p s t) (cumulative_below p s t a) (entries_from p s t a n) ≡ median p s t
unfolding climb entries_from entry_of
climb-from {p} {s} {t} k r two zero a e f = absurd (omega (arith, median-low k, failed-low k a f))
climb-from {p} {s} {t} k r two (suc n) a e f = go (eqb (level_sum p s t (λ x y. 1) a) 0) refl (climb-from k r two n (suc a) (omega arith))
  where
    weighed : cumulative_below p s t a +ℤ (slope p s t *ℤ pos (level_sum p s t (guide p) a) +ℤ offset p s t *ℤ pos (level_sum p s t (λ x y. 1) a)) ≡
        cumulative p s t a
    weighed = ap (λ (q : ℤ). cumulative_below p s t a +ℤ q) (sym (level-linear k a two)) ∙ sym (cumulative_below-next p s t a)

    test : (b : Bool) → le_z (total_weight p s t) (pos 2 *ℤ cumulative p s t a) ≡ b
        →
        (Failed p s t (suc a) →
        climb (total_weight p s t) (slope p s t) (offset p s t) (cumulative_below p s t (suc a)) (entries_from p s t (suc a) n) ≡ median p s t)
        → (if b then a else climb (total_weight p s t) (slope p s t) (offset p s t) (cumulative p s t a) (entries_from p s t (suc a) n)) ≡ median p s t
    test true d ih = sym (climb-found p s t a f (omega arith) d)
    test false d ih =
        ap (λ (u : ℤ). climb (total_weight p s t) (slope p s t) (offset p s t) u (entries_from p s t (suc a) n)) (sym (cumulative_below-suc p s t a)) ∙
        ih (climb-on p s t a f d)

    go : (b : Bool) → eqb (level_sum p s t (λ x y. 1) a) 0 ≡ b
        →
        (Failed p s t (suc a) →
        climb (total_weight p s t) (slope p s t) (offset p s t) (cumulative_below p s t (suc a)) (entries_from p s t (suc a) n) ≡ median p s t)
        → climb (total_weight p s t) (slope p s t) (offset p s t) (cumulative_below p s t a)
        ((if b then [] else record { level = a; count = level_sum p s t (λ x y. 1) a; guides = level_sum p s t (guide p) a } ∷ []) ++ entries_from p s t
        (suc a) n) ≡ median p s t
    go true d ih =
        let q = climb-over p s t a (total-pos k r) f (eqb-true _ _ d) in
        ap (λ (u : ℤ). climb (total_weight p s t) (slope p s t) (offset p s t) u (entries_from p s t (suc a) n)) (sym q.0) ∙ ih q.1
    go false d ih = rw weighed (test (le_z (total_weight p s t) (pos 2 *ℤ cumulative p s t a)) refl ih)

-- the chain's climb finds the answer
pub climb-median : {p : Frame} {s t : ℕ} → Pixel p s t → empty p s t ≡ false → p.set.kind ≡ 2
    → climb (total_weight p s t) (slope p s t) (offset p s t) (pos 0) (entries p s t p.set.levels) ≡ median p s t
climb-median {p} {s} {t} k r two =
    ap₂ (climb (total_weight p s t) (slope p s t) (offset p s t)) (sym (cumulative_below-zero p s t)) (entries_from_lem p s t p.set.levels)
    ∙ climb-from k r two p.set.levels 0 (zero-add p.set.levels) (failed-zero p s t)
