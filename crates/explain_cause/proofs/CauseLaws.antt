-- The cause by what the two ends of the guides weigh is the window's.
-- Assumes nothing.
use mathlib.Core.Path.{◌≡◌, refl, sym, ap, ◌∙◌}
use mathlib.Core.Bool.{Bool, true, false, ◌&&◌, ◌||◌}
use mathlib.Core.Logic.{◌⊎◌, inl, inr}
use mathlib.Core.List.{List}
use Prim.Native.Nat.{ℕ, ◌-◌, ◌≤◌}
use native.Mathlib.Omega.{arith}
use lib.Dec.{eqb}
use lib.IntN.{ℤ, pos, negsuc}
use lib.Signed.{◌<ℤ◌, ◌≤ℤ◌, non_neg}
use borrow.Author.Tests.{eq-eqb, ne_eqb}
use Rattle.ints.specs.Order.{≤-not-<, 0≤pos}
use Rattle.spec.specs.declared.Cause.TheVariants.{Ordinary, Hollow, NegativeAtZero, NegativeAtLast}
use Rattle.std.specs.Prelude.{if◌then◌else◌}
use Rattle.spec.specs.Frame.{Frame}
use Rattle.spec.specs.Window.{empty}
use Rattle.spec.specs.Weight.{weightless, weight, monotone}
use Rattle.spec.specs.Explain.{cause_of}
use Rattle.spec.proofs.Limits.{Pixel}
use Rattle.spec.proofs.Own.{weight-table}
use Rattle.balance.specs.Formula.{weight_by}
use Rattle.weight_sums.specs.declared.Counting.{Counting}
use Rattle.weight_sums.specs.Sums.{CountedBy}
use Rattle.explain_cause.specs.Cause.{cause_by}

-- kind 1 has no negative weight, so that its kind need not be asked
both_ends : {p : Frame} {s t : ℕ} → Pixel p s t → monotone p s t ≡ (non_neg (weight p s t 0) && non_neg (weight p s t (p.set.guides - 1)))
unfolding monotone
both_ends {p} {s} {t} k = go k.good.sound.kinds
  where
    go : ((p.set.kind ≡ 1) × (p.set.smoothing ≡ 0)) ⊎ ((p.set.kind ≡ 2) × (1 ≤ p.set.smoothing) × (p.set.smoothing ≤ 65025)) →
        (eqb p.set.kind 1 || (non_neg (weight p s t 0) && non_neg (weight p s t (p.set.guides - 1))))
        ≡ (non_neg (weight p s t 0) && non_neg (weight p s t (p.set.guides - 1)))
    go (inl h) =
        rw (eq-eqb p.set.kind 1 h.0, weight-table p s t 0 h.0, weight-table p s t (p.set.guides - 1) h.0) refl
    go (inr h) = rw (ne_eqb p.set.kind 1 (λ e. omega (arith, h.0))) refl

-- the three tests in one order and in the other
tests : (h x y : Bool) → (if h then Hollow else if x then (if y then Ordinary else NegativeAtLast) else NegativeAtZero)
    ≡ (if h then Hollow else if x && y then Ordinary else if x then NegativeAtLast else NegativeAtZero)
tests true x y = refl
tests false true true = refl
tests false true false = refl
tests false false y = refl

-- of a window with a reading
cause_is : {p : Frame} {s t : ℕ} → Pixel p s t → empty p s t ≡ false
    → cause_by (weightless p s t) (weight p s t 0) (weight p s t (p.set.guides - 1)) ≡ cause_of p s t
unfolding cause_by cause_of
cause_is {p} {s} {t} k r =
    rw r
    (tests (weightless p s t) (non_neg (weight p s t 0)) (non_neg (weight p s t (p.set.guides - 1)))
    ∙ ap
    (λ (b : Bool). if weightless p s t then Hollow else if b then Ordinary else if non_neg (weight p s t 0) then NegativeAtLast else NegativeAtZero)
    (sym (both_ends k)))

-- by what the window is counted with
pub cause-counted : {p : Frame} {s t : ℕ} → Pixel p s t → empty p s t ≡ false → {row : List ℕ} {c : Counting} → CountedBy p s t row c → {m : ℕ}
    → m ≡ p.set.guides → cause_by c.hollow (weight_by row c.formula 0) (weight_by row c.formula (m - 1)) ≡ cause_of p s t
cause-counted {p} {s} {t} k r {row} {c} by e =
    rw (e, by.hollow, sym (by.weighs.is 0 (omega (arith, low))), sym (by.weighs.is (p.set.guides - 1) (omega (arith, low)))) (cause_is k r)
  where
    low : 2 ≤ p.set.guides
    low = k.good.sound.guides_low

-- ---- by the signs
signed : (z : ℤ) → pos 0 ≤ℤ z → non_neg z ≡ true
signed (pos n) h = refl
signed (negsuc n) h = absurd h.le

unsigned : (z : ℤ) → z <ℤ pos 0 → non_neg z ≡ false
unsigned (pos n) h = absurd (≤-not-< (0≤pos {n = n}) h)
unsigned (negsuc n) h = refl

module _ {hollow : Bool} (first last : ℤ) where
  pub by-hollow : hollow ≡ true → cause_by hollow first last ≡ Hollow
  unfolding cause_by
  by-hollow e = rw e refl

  pub by_zero : hollow ≡ false → first <ℤ pos 0 → cause_by hollow first last ≡ NegativeAtZero
  unfolding cause_by
  by_zero e h = rw (e, unsigned first h) refl

  pub by_last : hollow ≡ false → pos 0 ≤ℤ first → last <ℤ pos 0 → cause_by hollow first last ≡ NegativeAtLast
  unfolding cause_by
  by_last e h l = rw (e, signed first h, unsigned last l) refl

  pub by-none : hollow ≡ false → pos 0 ≤ℤ first → pos 0 ≤ℤ last → cause_by hollow first last ≡ Ordinary
  unfolding cause_by
  by-none e h l = rw (e, signed first h, signed last l) refl
