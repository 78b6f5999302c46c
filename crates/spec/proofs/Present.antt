-- The answer is a level that the window has, with a level weight above 0: so climbing the levels that the window has finds it.
-- Assumes nothing.
use mathlib.Core.Path.{◌≡◌, refl, ap, ◌∙◌, subst}
use Prim.Native.Nat.{ℕ, zero, suc, ◌+◌, ◌≤◌, ◌<◌}
use native.Mathlib.Nat.{add-suc, add-zero}
use native.Mathlib.Omega.{arith}
use lib.Dec.{eqb}
use lib.IntN.{ℤ, pos, ◌+ℤ◌, ◌*ℤ◌, +ℤ_idr, *ℤ-zero}
use borrow.Author.Tests.{eq-eqb, ne_eqb}
use Rattle.std.specs.Prelude.{if◌then◌else◌}
use Rattle.spec.specs.declared.Settings.{Settings}
use Rattle.spec.specs.Frame.{Frame, level}
use Rattle.spec.specs.Window.{pixel_count, InWindow}
use Rattle.spec.specs.Median.{cumulative}
use Rattle.spec.specs.Window.{level_sum}
use Rattle.spec.proofs.Ranges.{int_sums}
use Rattle.spec.proofs.Sums.{over-in_window, over-term, over-constantℤ}
use Rattle.spec.specs.Checks.{SettingsLimits}
use Rattle.spec.proofs.Limits.{FrameLimits, Pixel}
use Rattle.spec.proofs.Levels.{level_weight, cumulative-next}

-- how many pixels of the window have level i
abbrev pub level_count : Frame → ℕ → ℕ → ℕ → ℕ
level_count p s t i = level_sum p s t (λ x y. 1) i

-- an absent level
absent-here : (v i : ℕ) → (if eqb v i then 1 else 0) ≤ 0 → v ≡ i → ⊥
absent-here v i h e = let q : ◌≡◌ {A = ℕ} (if eqb v i then 1 else 0) 1 = rw (eq-eqb v i e) refl in omega arith

pub absent : (p : Frame) (s t i : ℕ) → level_count p s t i ≡ 0 → (x y : ℕ) → InWindow p s t x y → level p x y ≡ i → ⊥
unfolding level_sum
absent p s t i e x y h =
    absent-here (level p x y) i
    (subst (λ (n : ℕ). (if eqb (level p x y) i then 1 else 0) ≤ n) e (over-term p s t (λ u v. if eqb (level p u v) i then 1 else 0) x y h))

pub absent-weight : (p : Frame) (s t i : ℕ) → level_count p s t i ≡ 0 → level_weight p s t i ≡ pos 0
unfolding level_weight
absent-weight p s t i e =
    over-in_window ◌+ℤ◌ (pos 0) int_sums p s t _ (λ x y. pos 0) (λ x y h. rw (ne_eqb (level p x y) i (absent p s t i e x y h)) refl)
    ∙ over-constantℤ p s t (pos 0) ∙ *ℤ-zero (pos (pixel_count p s t))

pub absent-up : (p : Frame) (s t i : ℕ) → level_count p s t (suc i) ≡ 0 → cumulative p s t (suc i) ≡ cumulative p s t i
absent-up p s t i e = cumulative-next p s t i ∙ ap (λ (q : ℤ). cumulative p s t i +ℤ q) (absent-weight p s t (suc i) e) ∙ +ℤ_idr (cumulative p s t i)

-- U stands still over absent levels
pub absent-fold : (p : Frame) (s t i d : ℕ) → ((j : ℕ) → i < j → j ≤ i + d → level_count p s t j ≡ 0) → cumulative p s t (i + d) ≡ cumulative p s t i
absent-fold p s t i zero h = ap (cumulative p s t) (add-zero i)
absent-fold p s t i (suc d) h =
    let e : i + suc d ≡ suc (i + d) = add-suc i d in
    ap (cumulative p s t) e ∙ absent-up p s t (i + d) (h (suc (i + d)) (omega arith) (omega arith)) ∙ absent-fold p s t i d
    (λ j a b. h j a (omega arith))
