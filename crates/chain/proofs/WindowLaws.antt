-- Counts and guide sums of a window's levels: how many they are in all, and that a leaving line is a part of the window.
-- Assumes nothing.
use mathlib.Core.Path.{◌≡◌, refl, sym, ap, ap₂, ◌∙◌, fun_ext}
use mathlib.Core.Bool.{Bool, true, false}
use mathlib.Core.List.{List, []}
use Prim.Native.Nat.{ℕ, ◌+◌, ◌-◌, ◌*◌, ◌≤◌, ◌<◌}
use native.Mathlib.Nat.{mul-one, zero-mul}
use native.Mathlib.Omega.{arith}
use lib.Dec.{eqb, leb, ltb}
use borrow.Author.Tests.{leb-true, ltb-true}
use Rattle.spec.specs.declared.Plan.{Plan}
use Rattle.std.specs.Prelude.{if◌then◌else◌}
use Rattle.spec.specs.Base.{fold_rect, sum}
use Rattle.spec.specs.Frame.{Frame, level, dead, guide, frame_of}
use Rattle.spec.specs.Checks.{Planned}
use Rattle.spec.specs.Window.{span, live, over, in_row, Σ, level_sum, InWindow}
use Rattle.spec.proofs.Limits.{Pixel}
use Rattle.spec.proofs.Plans.{facts}
use Rattle.spec.proofs.Ranges.{nat_sums, fold_rect-turn}
use Rattle.spec.proofs.Sums.{sum-term, in_window}
use Rattle.spec.proofs.Histogram.{fold-pick, over-fold, over-same}
use Rattle.window.specs.declared.line.Line.{Line}
use Rattle.window.specs.Line.{column_line, row_line, shift, advance, column_step, row_step, reverse, step_of, Adjacent, right, left, down, up, line_fold}
use Rattle.window.proofs.FormLaws.{is_right, is-left, is_down, is_up}
use Rattle.window.proofs.LineLaws.{line-none, row-fold, columns-law}
use Rattle.chain_list.specs.Chain.{sum_below}
use Rattle.chain.specs.Lines.{counted, guided}
use Rattle.chain_list.proofs.SumLaws.{sum-mixed}
use Rattle.chain.proofs.LineLaws.{lacking, mixed}

-- the window's sum by levels is its sum
pub level-total : {p : Frame} {s t : ℕ} → Pixel p s t → (f : ℕ → ℕ → ℕ) → sum_below (level_sum p s t f) p.set.levels ≡ Σ p s t f
unfolding level_sum
level-total {p} {s} {t} k f =
    sym (over-fold ◌+◌ 0 nat_sums p s t (λ i x y. if eqb (level p x y) i then f x y else 0) p.set.levels)
    ∙ over-same ◌+◌ 0 nat_sums p s t _ f
    (λ x y a b e. fold-pick ◌+◌ 0 nat_sums (λ i. f x y) (level p x y) p.set.levels (k.good.level-low x y a b e))

-- ---- a window of an accepted file
module _ {b : List ℕ} {z : Plan} (pl : Planned b z) where
  abbrev pub window : (ℕ → ℕ → ℕ) → ℕ → ℕ → ℕ
  window h s t = over ◌+◌ 0 (frame_of b) s t (λ x y. h (level (frame_of b) x y) (guide (frame_of b) x y))

  pub window-mixed : (s t i : ℕ) → window (lacking i) s t + window (guided i) s t ≡ 255 * window (counted i) s t
  unfolding over fold_rect live
  window-mixed s t i =
      sum-mixed _ _ _ _ _
      (λ x a c. sum-mixed _ _ _ _ _ (λ y d e. go x y (λ q. in_window (frame_of b) s t x y a c d e q) (dead (frame_of b) x y) refl))
    where
      one : (h : ℕ → ℕ → ℕ) (x y : ℕ) → ℕ
      one h x y = h (level (frame_of b) x y) (guide (frame_of b) x y)

      go : (x y : ℕ) → (dead (frame_of b) x y ≡ false → InWindow (frame_of b) s t x y) → (v : Bool) → dead (frame_of b) x y ≡ v
          → (if v then 0 else one (lacking i) x y) + (if v then 0 else one (guided i) x y) ≡ 255 * (if v then 0 else one (counted i) x y)
      go x y w true q = refl
      go x y w false q =
          let g = (facts pl).limits in
          mixed (eqb (level (frame_of b) x y) i) (guide (frame_of b) x y)
          (omega (arith, g.guide-low x y (w q).wide (w q).high, g.sound.guides_high))

  -- ---- a column, a row of the window is a part of it
  module _ (h : ℕ → ℕ → ℕ) where
    column-part : (s t x : ℕ) → s - z.radius ≤ x → x < s - z.radius + span z.radius s z.width →
        line_fold ◌+◌ 0 b [] (column_line z x t) h ≤ window h s t
    column-part s t x l k = rw (columns-law ◌+◌ 0 pl h s t) (sum-term (λ x. line_fold ◌+◌ 0 b [] (column_line z x t) h) _ _ x l k)

    rows-over : (s t : ℕ) → window h s t
        ≡ sum (in_row ◌+◌ 0 (frame_of b) s (λ x y. h (level (frame_of b) x y) (guide (frame_of b) x y))) (t - (frame_of b).set.radius)
        (span (frame_of b).set.radius t (frame_of b).set.height)
    unfolding over fold_rect in_row
    rows-over s t = fold_rect-turn ◌+◌ 0 nat_sums (live 0 (frame_of b) (λ x y. h (level (frame_of b) x y) (guide (frame_of b) x y))) _ _ _ _

    rows-law : (s t : ℕ) → window h s t ≡ sum (λ y. line_fold ◌+◌ 0 b [] (row_line z s y) h) (t - z.radius) (span z.radius t z.height)
    rows-law s t =
        let f = facts pl in
        rows-over s t
        ∙ sym
        (ap₂ (λ (r n : ℕ). sum (in_row ◌+◌ 0 (frame_of b) s (λ x y. h (level (frame_of b) x y) (guide (frame_of b) x y))) (t - r) (span r t n))
        f.radius f.height)
        ∙ ap (λ (q : ℕ → ℕ). sum q (t - z.radius) (span z.radius t z.height)) (fun_ext (λ y. sym (row-fold ◌+◌ 0 pl h s y)))

    row-part : (s t y : ℕ) → t - z.radius ≤ y → y < t - z.radius + span z.radius t z.height →
        line_fold ◌+◌ 0 b [] (row_line z s y) h ≤ window h s t
    row-part s t y l k = rw (rows-law s t) (sum-term (λ y. line_fold ◌+◌ 0 b [] (row_line z s y) h) _ _ y l k)

    -- a line shifted from the first column, from the first row; where it is off the picture, it has no pixel
    shifted-column : (t x : ℕ) → shift (column_line z 0 t) (x * 1) true ≡ column_line z x t
    unfolding shift column_line
    shifted-column t x =
        let e : (t - z.radius) * z.width + 0 + x * 1 ≡ (t - z.radius) * z.width + x = rw (mul-one x) (omega arith) in
        ap (λ (f : ℕ). record { first = f; stride = z.width; count = span z.radius t z.height }) e

    shifted_row : (s y : ℕ) → shift (row_line z s 0) (y * z.width) true ≡ row_line z s y
    unfolding shift row_line
    shifted_row s y =
        let e : 0 * z.width + (s - z.radius) + y * z.width ≡ y * z.width + (s - z.radius) = rw (zero-mul z.width) (omega arith) in
        ap (λ (f : ℕ). record { first = f; stride = 1; count = span z.radius s z.width }) e

    shifted-part : (d : Line) (by n : ℕ) (on : Bool) → (on ≡ true → line_fold ◌+◌ 0 b [] (shift d by true) h ≤ n)
        → line_fold ◌+◌ 0 b [] (shift d by on) h ≤ n
    unfolding shift
    shifted-part d by n true k = k refl
    shifted-part d by n false k = rw (line-none ◌+◌ 0 b []) (omega arith)

    pub leaving-part : {s t s' t' : ℕ} → Adjacent z s t s' t' → line_fold ◌+◌ 0 b [] (step_of z s t s' t').leaving h ≤ window h s t
    unfolding column_step row_step advance reverse span
    leaving-part {s} {t} {s'} {t'} (right es et hs ht) = rw (is_right z s t s' t' (omega arith)) (
        shifted-part _ _ _ (leb z.radius s)
        (λ e. rw (shifted-column t (s - z.radius))
        (column-part s t (s - z.radius) (omega arith) (let k = leb-true z.radius s e in omega arith))))
    leaving-part {s} {t} {s'} {t'} (left es et hs ht) = rw (is-left z s t s' t' (omega arith)) (
        shifted-part _ _ _ (ltb (s' + z.radius + 1) z.width)
        (λ e. rw (shifted-column t (s' + z.radius + 1))
        (column-part s t (s' + z.radius + 1) (omega arith) (let k = ltb-true (s' + z.radius + 1) z.width e in omega arith))))
    leaving-part {s} {t} {s'} {t'} (down es et hs ht) = rw (is_down z s t s' t' (omega arith) (omega arith) (omega arith)) (
        shifted-part _ _ _ (leb z.radius t)
        (λ e. rw (shifted_row s (t - z.radius)) (row-part s t (t - z.radius) (omega arith) (let k = leb-true z.radius t e in omega arith))))
    leaving-part {s} {t} {s'} {t'} (up es et hs ht) = rw (is_up z s t s' t' (omega arith) (omega arith) (omega arith)) (
        shifted-part _ _ _ (ltb (t' + z.radius + 1) z.height)
        (λ e. rw (shifted_row s (t' + z.radius + 1))
        (row-part s t (t' + z.radius + 1) (omega arith) (let k = ltb-true (t' + z.radius + 1) z.height e in omega arith))))
