-- The window one pixel on, and the line that it lost, is the old window, and the line that it gained: one law for the four moves, for every operation
-- and everything that is summed by level and guide.
-- Assumes nothing.
use mathlib.Core.Path.{◌≡◌, refl, sym, ap, ap₂, ◌∙◌, fun_ext}
use mathlib.Core.Bool.{Bool, true, false}
use mathlib.Core.List.{List}
use Prim.Native.Nat.{ℕ, zero, suc, ◌+◌, ◌-◌, ◌*◌, ◌≤◌, ◌<◌}
use native.Mathlib.Nat.{zero-add, mul-one, add-mul}
use native.Mathlib.Numerals.{add-one}
use native.Mathlib.Omega.{arith}
use lib.Dec.{leb, ltb}
use borrow.Author.Tests.{ltb-true}
use Rattle.spec.specs.declared.Plan.{Plan}
use Rattle.std.specs.Prelude.{if◌then◌else◌}
use Rattle.spec.specs.Base.{fold, fold_rect}
use Rattle.spec.specs.Frame.{level, guide, pixel_guide, frame_with, value_of}
use Rattle.spec.specs.Checks.{Pictured}
use Rattle.spec.specs.Window.{span, live, over, in_column, in_row}
use Rattle.spec.proofs.Ranges.{AdditionLaws, lost, gained, over-right, over-down}
use Rattle.spec.proofs.Plans.{facts, place-low}
use Rattle.window.specs.declared.line.Line.{Line}
use Rattle.window.specs.declared.line.Step.{Step}
use Rattle.window.specs.Line.{
  PlanLimits,
  column_line,
  row_line,
  shift,
  advance,
  column_step,
  row_step,
  reverse,
  step_of,
  Adjacent,
  right,
  left,
  down,
  up,
  pixel_of,
  reading,
  InPlanes,
  StepInPlanes,
  line_fold_to,
  line_fold,
}
use Rattle.window.proofs.FormLaws.{is_right, is-left, is_down, is_up}

column-place : (w a x k f : ℕ) → f ≡ a * w + x → f + k * w ≡ (a + k) * w + x
column-place w a x k f e = rw (add-mul a k w) (omega arith)

row-place : (w y a k f : ℕ) → f ≡ y * w + a → f + k * 1 ≡ y * w + (a + k)
row-place w y a k f e = rw (mul-one k) (omega arith)

column-first : (w a x : ℕ) → a * w + 0 + x * 1 ≡ a * w + x
column-first w a x = rw (mul-one x) (omega arith)

row_first : (w a y : ℕ) → 0 * w + a + y * w ≡ y * w + a
row_first w a y = rw (native.Mathlib.Nat.zero-mul w) (omega arith)

pub span-in : (r c size k : ℕ) → k < span r c size → c - r + k < size
unfolding span
span-in r c size k h = omega arith

pub span-high : (r c size : ℕ) → r ≤ 15 → span r c size ≤ 31
unfolding span
span-high r c size h = omega arith

-- ---- sums along a line
module _ {A : Type 0} (◌⊕◌ : A → A → A) (e : A) where
  infixl 6 ◌⊕◌
  fold-moved : (F G : ℕ → A) (a n : ℕ) → ((k : ℕ) → F k ≡ G (a + k)) → fold ◌⊕◌ e F 0 n ≡ fold ◌⊕◌ e G a n
  unfolding fold
  fold-moved F G a zero h = refl
  fold-moved F G a (suc n) h = ap₂ ◌⊕◌ (fold-moved F G a n h) (ap F (zero-add n) ∙ h n)

  -- one pixel, one line more
  pub fold-none : (F : ℕ → A) (a : ℕ) → fold ◌⊕◌ e F a 0 ≡ e
  unfolding fold
  fold-none F a = refl

  pub fold_more : (F : ℕ → A) (a n : ℕ) → fold ◌⊕◌ e F a (n + 1) ≡ fold ◌⊕◌ e F a n ⊕ F (a + n)
  unfolding fold
  fold_more F a n = rw add-one refl

  pub line-none : (b vs : List ℕ) (d : Line) (h : ℕ → ℕ → A) → line_fold_to ◌⊕◌ e b vs d h 0 ≡ e
  unfolding line_fold_to
  line-none b vs d h = fold-none _ 0

  pub line-more : (b vs : List ℕ) (d : Line) (h : ℕ → ℕ → A) (n : ℕ)
      → line_fold_to ◌⊕◌ e b vs d h (n + 1) ≡ line_fold_to ◌⊕◌ e b vs d h n ⊕ reading e h (value_of b vs (pixel_of d n)) (pixel_guide b (pixel_of d n))
  unfolding line_fold_to
  line-more b vs d h n =
      fold_more _ 0 n
      ∙ ap (λ (k : ℕ). line_fold_to ◌⊕◌ e b vs d h n ⊕ reading e h (value_of b vs (pixel_of d k)) (pixel_guide b (pixel_of d k))) (zero-add n)

  shift-fold : (b vs : List ℕ) (h : ℕ → ℕ → A) (d : Line) (by : ℕ) (on : Bool)
      → line_fold ◌⊕◌ e b vs (shift d by on) h ≡ (if on then line_fold ◌⊕◌ e b vs (shift d by true) h else e)
  unfolding shift line_fold_to fold
  shift-fold b vs h d by true = refl
  shift-fold b vs h d by false = refl

  -- what is lost and gained, line by line
  module _ (b vs : List ℕ) (h : ℕ → ℕ → A) (d : Line) (apart r size : ℕ) (G : ℕ → A) (same : (x : ℕ) →
      line_fold ◌⊕◌ e b vs (shift d (x * apart) true) h ≡ G x) where
    lost-line : (c : ℕ) → line_fold ◌⊕◌ e b vs (advance d apart c r size).leaving h ≡ lost ◌⊕◌ e G r c
    unfolding advance lost
    lost-line c = shift-fold b vs h d ((c - r) * apart) (leb r c) ∙ ap (λ (q : A). if leb r c then q else e) (same (c - r))

    gained-line : (c : ℕ) → line_fold ◌⊕◌ e b vs (advance d apart c r size).entering h ≡ gained ◌⊕◌ e G r c size
    unfolding advance gained
    gained-line c =
        shift-fold b vs h d ((c + r + 1) * apart) (ltb (c + r + 1) size) ∙ ap (λ (q : A). if ltb (c + r + 1) size then q else e) (same (c + r + 1))

  module _ {b vs : List ℕ} {z : Plan} (pl : Pictured b vs z) (h : ℕ → ℕ → A) where
    -- h at a pixel of the picture
    abbrev pub at : ℕ → ℕ → A
    at x y = h (level (frame_with b vs) x y) (guide (frame_with b vs) x y)

    place_at : (q x y : ℕ) → q ≡ y * z.width + x → reading e h (value_of b vs q) (pixel_guide b q) ≡ live e (frame_with b vs) at x y
    unfolding live
    place_at q x y k = let f = facts pl in ap₂ (reading e h) (ap (value_of b vs) k ∙ f.level_at x y) (ap (pixel_guide b) k ∙ f.guide-at x y)

    along-column : (first x t : ℕ) → first ≡ (t - z.radius) * z.width + x
        → fold ◌⊕◌ e (λ k. reading e h (value_of b vs (first + k * z.width)) (pixel_guide b (first + k * z.width))) 0 (span z.radius t z.height)
        ≡ in_column ◌⊕◌ e (frame_with b vs) t at x
    unfolding in_column
    along-column first x t k =
        let f = facts pl in
        fold-moved _ (live e (frame_with b vs) at x) (t - z.radius) (span z.radius t z.height)
        (λ j. place_at _ x (t - z.radius + j) (column-place z.width (t - z.radius) x j first k))
        ∙ ap₂ (λ (r n : ℕ). fold ◌⊕◌ e (live e (frame_with b vs) at x) (t - r) (span r t n)) f.radius f.height

    along-row : (first s y : ℕ) → first ≡ y * z.width + (s - z.radius)
        → fold ◌⊕◌ e (λ k. reading e h (value_of b vs (first + k * 1)) (pixel_guide b (first + k * 1))) 0 (span z.radius s z.width)
        ≡ in_row ◌⊕◌ e (frame_with b vs) s at y
    unfolding in_row
    along-row first s y k =
        let f = facts pl in
        fold-moved _ (λ x. live e (frame_with b vs) at x y) (s - z.radius) (span z.radius s z.width)
        (λ j. place_at _ (s - z.radius + j) y (row-place z.width y (s - z.radius) j first k))
        ∙ ap₂ (λ (r n : ℕ). fold ◌⊕◌ e (λ x. live e (frame_with b vs) at x y) (s - r) (span r s n)) f.radius f.width

    pub column-fold : (x t : ℕ) → line_fold ◌⊕◌ e b vs (column_line z x t) h ≡ in_column ◌⊕◌ e (frame_with b vs) t at x
    unfolding column_line line_fold_to
    column-fold x t = along-column _ x t refl

    pub row-fold : (s y : ℕ) → line_fold ◌⊕◌ e b vs (row_line z s y) h ≡ in_row ◌⊕◌ e (frame_with b vs) s at y
    unfolding row_line line_fold_to
    row-fold s y = along-row _ s y refl

    column-shift : (t x : ℕ) → line_fold ◌⊕◌ e b vs (shift (column_line z 0 t) (x * 1) true) h ≡ in_column ◌⊕◌ e (frame_with b vs) t at x
    unfolding column_line shift line_fold_to
    column-shift t x = along-column _ x t (column-first z.width (t - z.radius) x)

    row-shift : (s y : ℕ) → line_fold ◌⊕◌ e b vs (shift (row_line z s 0) (y * z.width) true) h ≡ in_row ◌⊕◌ e (frame_with b vs) s at y
    unfolding row_line shift line_fold_to
    row-shift s y = along-row _ s y (row_first z.width (s - z.radius) y)

    -- the window by its columns
    columns-over : (s t : ℕ) →
        fold ◌⊕◌ e (in_column ◌⊕◌ e (frame_with b vs) t at) (s - (frame_with b vs).set.radius)
        (span (frame_with b vs).set.radius s (frame_with b vs).set.width) ≡ over
        ◌⊕◌ e (frame_with b vs) s t at
    unfolding over fold_rect in_column
    columns-over s t = refl

    pub columns-law : (s t : ℕ) →
        over ◌⊕◌ e (frame_with b vs) s t at ≡ fold ◌⊕◌ e (λ x. line_fold ◌⊕◌ e b vs (column_line z x t) h) (s - z.radius)
        (span z.radius s z.width)
    columns-law s t =
        let f = facts pl in
        sym (columns-over s t)
        ∙ sym (ap₂ (λ (r n : ℕ). fold ◌⊕◌ e (in_column ◌⊕◌ e (frame_with b vs) t at) (s - r) (span r s n)) f.radius f.width)
        ∙ ap (λ (H : ℕ → A). fold ◌⊕◌ e H (s - z.radius) (span z.radius s z.width)) (fun_ext (λ x. sym (column-fold x t)))

    -- ---- a step
    module _ (laws : AdditionLaws ◌⊕◌ e) where
      column-law : (s t : ℕ) → s + 1 < z.width
          →
          over ◌⊕◌ e (frame_with b vs) (s + 1) t at ⊕ line_fold ◌⊕◌ e b vs (column_step z s t).leaving h
          ≡ over ◌⊕◌ e (frame_with b vs) s t at ⊕ line_fold ◌⊕◌ e b vs
          (column_step z s t).entering h
      unfolding column_step
      column-law s t k =
          let f = facts pl in
          let G : ℕ → A = in_column ◌⊕◌ e (frame_with b vs) t at in
          ap (λ (q : A). over ◌⊕◌ e (frame_with b vs) (s + 1) t at ⊕ q)
          (lost-line b vs h (column_line z 0 t) 1 z.radius z.width G (column-shift t) s ∙ ap (λ (r : ℕ). lost ◌⊕◌ e G r s) f.radius)
          ∙ over-right ◌⊕◌ e laws (frame_with b vs) s t at (rw f.width at k)
          ∙ ap (λ (q : A). over ◌⊕◌ e (frame_with b vs) s t at ⊕ q)
          (sym
          (gained-line b vs h (column_line z 0 t) 1 z.radius z.width G (column-shift t) s ∙ ap₂ (λ (r n : ℕ). gained ◌⊕◌ e G r s n) f.radius
          f.width))

      row-law : (s t : ℕ) → t + 1 < z.height
          →
          over ◌⊕◌ e (frame_with b vs) s (t + 1) at ⊕ line_fold ◌⊕◌ e b vs (row_step z s t).leaving h
          ≡ over ◌⊕◌ e (frame_with b vs) s t at ⊕ line_fold ◌⊕◌ e b vs
          (row_step z s t).entering h
      unfolding row_step
      row-law s t k =
          let f = facts pl in
          let G : ℕ → A = in_row ◌⊕◌ e (frame_with b vs) s at in
          ap (λ (q : A). over ◌⊕◌ e (frame_with b vs) s (t + 1) at ⊕ q)
          (lost-line b vs h (row_line z s 0) z.width z.radius z.height G (row-shift s) t ∙ ap (λ (r : ℕ). lost ◌⊕◌ e G r t) f.radius)
          ∙ over-down ◌⊕◌ e laws (frame_with b vs) s t at (rw f.height at k)
          ∙ ap (λ (q : A). over ◌⊕◌ e (frame_with b vs) s t at ⊕ q)
          (sym
          (gained-line b vs h (row_line z s 0) z.width z.radius z.height G (row-shift s) t ∙ ap₂ (λ (r n : ℕ). gained ◌⊕◌ e G r t n)
          f.radius f.height))

      pub step-law : {s t s' t' : ℕ} → Adjacent z s t s' t'
          → over ◌⊕◌ e (frame_with b vs) s' t' at ⊕ line_fold ◌⊕◌ e b vs (step_of z s t s' t').leaving h
          ≡ over ◌⊕◌ e (frame_with b vs) s t at ⊕ line_fold ◌⊕◌ e b vs (step_of z s t s' t').entering h
      unfolding reverse
      step-law {s} {t} {s'} {t'} (right es et hs ht) =
          rw (is_right z s t s' t' (omega arith), es, et) (column-law s t (omega arith))
      step-law {s} {t} {s'} {t'} (left es et hs ht) =
          rw (is-left z s t s' t' (omega arith), es, et) (sym (column-law s' t (omega arith)))
      step-law {s} {t} {s'} {t'} (down es et hs ht) =
          rw (is_down z s t s' t' (omega arith) (omega arith) (omega arith), es, et) (row-law s t (omega arith))
      step-law {s} {t} {s'} {t'} (up es et hs ht) =
          rw (is_up z s t s' t' (omega arith) (omega arith) (omega arith), es, et) (sym (row-law s t' (omega arith)))

-- ---- every line is in the picture
module _ {z : Plan} (lim : PlanLimits z) where
  in-column : (first x t : ℕ) → first ≡ (t - z.radius) * z.width + x → x < z.width
      → InPlanes z (record { first = first; stride = z.width; count = span z.radius t z.height })
  in-column first x t e h =
      record {
        inside =
            λ k l. rw (column-place z.width (t - z.radius) x k first e)
            (place-low z x (t - z.radius + k) h (span-in z.radius t z.height k l));
        near = lim.width;
        few = span-high z.radius t z.height lim.radius;
      }

  in-row : (first s y : ℕ) → first ≡ y * z.width + (s - z.radius) → y < z.height
      → InPlanes z (record { first = first; stride = 1; count = span z.radius s z.width })
  in-row first s y e h =
      record {
        inside =
            λ k l. rw (row-place z.width y (s - z.radius) k first e) (place-low z (s - z.radius + k) y (span-in z.radius s z.width k l) h);
        near = omega arith;
        few = span-high z.radius s z.width lim.radius;
      }

  pub column-in : (x t : ℕ) → x < z.width → InPlanes z (column_line z x t)
  unfolding column_line
  column-in x t h = in-column _ x t refl h

  pub row_in : (s y : ℕ) → y < z.height → InPlanes z (row_line z s y)
  unfolding row_line
  row_in s y h = in-row _ s y refl h

  shift_in : (d : Line) (by : ℕ) (on : Bool) → d.stride ≤ 1024 → (on ≡ true → InPlanes z (shift d by true)) → InPlanes z (shift d by on)
  unfolding shift
  shift_in d by true n h = h refl
  shift_in d by false n h = record { inside = λ k l. absurd (omega arith); near = n; few = omega arith }

  advance-in : (d : Line) (apart c r size : ℕ) → d.stride ≤ 1024 → c < size → ((x : ℕ) → x < size → InPlanes z (shift d (x * apart) true)) →
      StepInPlanes z (advance d apart c r size)
  unfolding advance
  advance-in d apart c r size n l h =
      record {
        leaving = shift_in d ((c - r) * apart) (leb r c) n (λ _. h (c - r) (omega arith));
        entering = shift_in d ((c + r + 1) * apart) (ltb (c + r + 1) size) n (λ k. h (c + r + 1) (ltb-true _ _ k));
      }

  column-step-in : (c t : ℕ) → c < z.width → StepInPlanes z (column_step z c t)
  unfolding column_step column_line shift
  column-step-in c t h =
      advance-in (column_line z 0 t) 1 c z.radius z.width lim.width h (λ x l. in-column _ x t (column-first z.width (t - z.radius) x) l)

  row-step-in : (s c : ℕ) → c < z.height → StepInPlanes z (row_step z s c)
  unfolding row_step row_line shift
  row-step-in s c h =
      advance-in (row_line z s 0) z.width c z.radius z.height (omega arith) h (λ y l. in-row _ s y (row_first z.width (s - z.radius) y) l)

  reverse-in : (d : Step) → StepInPlanes z d → StepInPlanes z (reverse d)
  unfolding reverse
  reverse-in d k = record { leaving = k.entering; entering = k.leaving }

  pub lines-in : {s t s' t' : ℕ} → Adjacent z s t s' t' → StepInPlanes z (step_of z s t s' t')
  lines-in {s} {t} {s'} {t'} (right es et hs ht) = rw (is_right z s t s' t' (omega arith)) (column-step-in s t (omega arith))
  lines-in {s} {t} {s'} {t'} (left es et hs ht) = rw (is-left z s t s' t' (omega arith)) (reverse-in _ (column-step-in s' t (omega arith)))
  lines-in {s} {t} {s'} {t'} (down es et hs ht) = rw (is_down z s t s' t' (omega arith) (omega arith) (omega arith)) (row-step-in s t (omega arith))
  lines-in {s} {t} {s'} {t'} (up es et hs ht) =
      rw (is_up z s t s' t' (omega arith) (omega arith) (omega arith)) (reverse-in _ (row-step-in s t' (omega arith)))
