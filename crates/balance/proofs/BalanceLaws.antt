-- Laws of the balance from the file alone: what lists of pixels and columns add, and how large it can be.
-- Assumes nothing.
use mathlib.Core.Path.{◌≡◌, refl, sym, ap, ap₂, ◌∙◌, subst}
use mathlib.Core.Logic.{⊎_elim}
use mathlib.Core.Bool.{Bool, true, false}
use mathlib.Core.List.{List, []}
use Prim.Native.Nat.{ℕ, ◌+◌, ◌-◌, ◌*◌, ◌≤◌, ◌<◌}
use native.Mathlib.Nat.{le_trans}
use native.Mathlib.Omega.{arith}
use lib.Dec.{leb, eqb}
use lib.ListN.{get_or}
use lib.IntN.{ℤ, pos, negsuc, nat_abs, ◌+ℤ◌, ◌-ℤ◌, ◌*ℤ◌, +ℤ_idr, *ℤ-zero}
use Rattle.ints.specs.Bound.{abs-mul-le}
use Rattle.ints.specs.Order.{lt-or-le}
use Rattle.std.proofs.lemmas.Int.{ints}
use Rattle.ints.specs.Ring.{one-mul}
use Rattle.spec.specs.declared.Plan.{Plan}
use Rattle.std.specs.Prelude.{if◌then◌else◌}
use Rattle.spec.specs.Frame.{Frame, level, guide, frame_of}
use Rattle.spec.specs.Checks.{Planned}
use Rattle.spec.specs.Window.{span, pixel_count, empty, InWindow}
use Rattle.spec.specs.Weight.{own_weight, own_total, weightless, weight}
use Rattle.spec.specs.Median.{balance}
use Rattle.spec.proofs.Plans.{facts, pixel-of}
use Rattle.spec.proofs.Ranges.{int_sums}
use Rattle.spec.proofs.Sums.{over-in_window, over-constantℤ}
use Rattle.spec.proofs.Limits.{Pixel}
use Rattle.spec.proofs.Own.{weight-own, table-light, weightless-zero, weight-linear}
use Rattle.spec.proofs.Levels.{balance-signed}
use Rattle.spec.proofs.Bounds.{guided-abs}
use Rattle.window.specs.declared.line.Line.{Line}
use Rattle.window.specs.Line.{column_line, InPlanes}
use Rattle.window.proofs.PixelLaws.{plan-limits}
use Rattle.window.proofs.LineLaws.{column-in, span-in, span-high}
use Rattle.window.specs.declared.sums.Sums.{Sums}
use Rattle.window.specs.Sums.{SumsAt}
use Rattle.window_weights.specs.declared.coefficients.Coefficients.{Coefficients}
use Rattle.window_weights.specs.Coefficients.{WeighsAt, CoefficientsSmall}
use Rattle.pixels.specs.declared.Pixel.{Pixel as LinePixel}
use Rattle.pixels.specs.Pixels.{count_of, level_in, guide_in, pixel_fold_to, pixel_fold, columns_fold, LinePixels}
use Rattle.pixels.proofs.AdditiveLaws.{pixels-more, high-abs, columns-more, columns-window}
use Rattle.joint_pixel.specs.Side.{side}
use Rattle.joint_pixel.proofs.SideLaws.{side-low, side-high}
use Rattle.balance.specs.declared.formula.Formula.{Formula}
use Rattle.balance.specs.Formula.{weight_by, Gives, WeighsOwn, Weighs, Ramp}
use Rattle.joint_search.specs.Window.{RowGives}
use Rattle.balance.specs.Balance.{signed_by, balance_by, PixelsWeighed, Weighed}

-- a window's sums say whether it has a reading
pub empty-is : {p : Frame} {s t : ℕ} {a : Sums} → SumsAt p s t a → {r : Bool} → r ≡ eqb a.count 0 → r ≡ empty p s t
unfolding empty
empty-is v e = e ∙ ap (λ (n : ℕ). eqb n 0) v.count

side-abs : (c i : ℕ) → nat_abs (side c i) ≤ 1
side-abs c i = ⊎_elim (λ h. rw (side-high c i h) (omega arith)) (λ h. rw (side-low c i h) (omega arith)) (lt-or-le c i)

-- ---- along a list
module _ {p : List LinePixel} {row : List ℕ} {w : Formula} (v : PixelsWeighed p row w) (c : ℕ) where
  abbrev added : ℕ → ℤ
  added k = pixel_fold_to ◌+ℤ◌ (pos 0) p (signed_by row w c) k

  by-abs : (k : ℕ) → k < count_of p → nat_abs (signed_by row w c (level_in p k) (guide_in p k)) ≤ 180155859075
  unfolding signed_by
  by-abs k h = le_trans (abs-mul-le (side c (level_in p k)) (weight_by row w (guide_in p k)) (side-abs c (level_in p k)) (v.low k h)) (omega arith)

  pub list-abs : (k : ℕ) → k ≤ count_of p → nat_abs (added k) ≤ k * 180155859075
  list-abs k h = high-abs p (signed_by row w c) 180155859075 k (λ j l. by-abs j (omega arith))

  pub list-small : nat_abs (added (count_of p)) ≤ 5584831631325
  list-small = omega (arith, list-abs (count_of p) (omega arith), v.few)

  -- with a pixel's weight more, or less where its level is above
  module _ {k : ℕ} (h : k < count_of p) where
    pub added-up : level_in p k ≤ c → added (k + 1) ≡ added k +ℤ weight_by row w (guide_in p k)
    unfolding signed_by
    added-up l = pixels-more ◌+ℤ◌ (pos 0) p (signed_by row w c) k ∙ rw (side-low c (level_in p k) l) (omega (arith, ints))

    pub added-down : c < level_in p k → added (k + 1) ≡ added k -ℤ weight_by row w (guide_in p k)
    unfolding signed_by
    added-down l = pixels-more ◌+ℤ◌ (pos 0) p (signed_by row w c) k ∙ rw (side-high c (level_in p k) l) (omega (arith, ints))

module _ {b : List ℕ} {z : Plan} {s t : ℕ} {row : List ℕ} {w : Formula} (wd : Weighed b z s t row w) where
  -- ---- a line's list is weighed by the row
  module _ {d : Line} {p : List LinePixel} (v : LinePixels b [] z d p) where
    row_in : (k : ℕ) → k < count_of p → guide_in p k < (frame_of b).set.guides
    row_in k h = let l = v.below.guide k h in rw (facts wd.planned).guides at l

    pub pixels-weighed : PixelsWeighed p row w
    pixels-weighed = record {
      few = v.below.few;
      small = wd.fits.small;
      inside = λ k h. omega (arith, wd.fits.inside, row_in k h);
      low = λ k h. wd.fits.low (guide_in p k) (row_in k h);
    }

    -- ---- one column more
    pub column-next : (c x k : ℕ) → d ≡ column_line z (x + k) t
        → columns_fold ◌+ℤ◌ (pos 0) b [] z x t (signed_by row w c) (k + 1)
        ≡ columns_fold ◌+ℤ◌ (pos 0) b [] z x t (signed_by row w c) k +ℤ pixel_fold ◌+ℤ◌ (pos 0) p (signed_by row w c)
    column-next c x k ed = let h = signed_by row w c in columns-more ◌+ℤ◌ (pos 0) b [] z x t h k p ed (v.sumℤ h)

  -- the column that a turn adds is in the picture, and the columns are few
  module _ {x n k : ℕ} (ex : x ≡ s - z.radius) (en : n ≡ span z.radius s z.width) (h : k < n) where
    wide : x + k < z.width
    wide = omega (arith, span-in z.radius s z.width k (rw en at h))

    pub column-in-picture : (x + k ≤ 1024) × (t < z.height)
    column-in-picture = let l = plan-limits wd.planned in (omega (arith, wide, l.width), wd.row)

    pub column-in-planes : {d : Line} → d ≡ column_line z (x + k) t → InPlanes z d
    column-in-planes e = rw e (column-in (plan-limits wd.planned) (x + k) t wide)

    pub few-columns : k < 31
    few-columns = omega (arith, span-high z.radius s z.width (plan-limits wd.planned).radius)

  -- all columns
  pub columns-by : (c : ℕ) {x n : ℕ} → x ≡ s - z.radius → n ≡ span z.radius s z.width
      → columns_fold ◌+ℤ◌ (pos 0) b [] z x t (signed_by row w c) n ≡ balance_by (frame_of b) s t row w c
  unfolding balance_by
  columns-by c {x} ex en = columns-window ◌+ℤ◌ (pos 0) b [] z x t (signed_by row w c) wd.planned s ex en

-- ---- what the sums mean: by the weights that the window is counted with they are its balance; by its own ones their sum at the last level, and at
-- every level 0 where it is hollow
guide-in : {p : Frame} {s t x y : ℕ} → Pixel p s t → InWindow p s t x y → guide p x y < p.set.guides
guide-in {x = x} {y} k h = k.good.guide-low x y h.wide h.high

module _ {p : Frame} {s t : ℕ} (k : Pixel p s t) {row : List ℕ} {w : Formula} where
  pub by-balance : Weighs p s t row w → (c : ℕ) → balance_by p s t row w c ≡ balance p s t c
  unfolding balance_by signed_by side
  by-balance g c =
      over-in_window ◌+ℤ◌ (pos 0) int_sums p s t _ _
      (λ x y h. ap (λ (q : ℤ). (if leb (level p x y) c then pos 1 else negsuc 0) *ℤ q) (sym (g.is (guide p x y) (guide-in k h))))
      ∙ sym (balance-signed p s t c)

  module _ (g : WeighsOwn p s t row w) where
    pub by_total : (c : ℕ) → c ≡ p.set.levels - 1 → balance_by p s t row w c ≡ own_total p s t
    unfolding balance_by signed_by own_total
    by_total c e =
        over-in_window ◌+ℤ◌ (pos 0) int_sums p s t _ _
        (λ x y h. ap₂ (λ (u v : ℤ). u *ℤ v)
        (side-low c (level p x y) (omega (arith, k.good.level-low x y h.wide h.high h.read)))
        (sym (g.is (guide p x y) (guide-in k h))) ∙ one-mul (own_weight p s t (guide p x y)))

    pub by-none : p.set.kind ≡ 1 → weightless p s t ≡ true → (c : ℕ) → balance_by p s t row w c ≡ pos 0
    unfolding balance_by signed_by
    by-none one e c =
        over-in_window ◌+ℤ◌ (pos 0) int_sums p s t _ (λ x y. pos 0)
        (λ x y h. ap (λ (q : ℤ). side c (level p x y) *ℤ q)
        (sym (g.is (guide p x y) (guide-in k h)) ∙ weightless-zero p s t (table-light p s t one) e x y h)
        ∙ *ℤ-zero (side c (level p x y)))
        ∙ over-constantℤ p s t (pos 0) ∙ *ℤ-zero (pos (pixel_count p s t))

    -- so where they are not 0 the window is not hollow, and where it is not they are its balance
    pub by-some : p.set.kind ≡ 1 → (c : ℕ) → (balance_by p s t row w c ≡ pos 0 → ⊥) → weightless p s t ≡ false
    by-some one c n = go (weightless p s t) refl
      where
        go : (b : Bool) → weightless p s t ≡ b → b ≡ false
        go true e = absurd (n (by-none one e c))
        go false e = refl

    pub by-own : weightless p s t ≡ false → (c : ℕ) → balance_by p s t row w c ≡ balance p s t c
    by-own e c = by-balance (record { fits = g.fits; is = λ f h. weight-own p s t f e ∙ g.is f h }) c

-- ---- kind 1: a row of weights with slope 1 and offset 0
pub row-formula : {weigh : ℕ → ℤ} {m : ℕ} {row : List ℕ} → RowGives weigh m row → Gives weigh m row (record { slope = pos 1; offset = pos 0 })
row-formula {row = row} r = record {
  fits = record {
    inside = r.in-row.inside;
    small = record { slope = omega arith; offset = omega arith };
    low = λ g l. subst (λ (q : ℤ). nat_abs q ≤ 180155859075) (sym (by_one g)) (omega (arith, r.in-row.low g l));
  };
  is = λ g l. r.is g l ∙ sym (by_one g);
}
  where
    by_one : (g : ℕ) → weight_by row (record { slope = pos 1; offset = pos 0 }) g ≡ pos (get_or row g 0)
    by_one g = +ℤ_idr (pos 1 *ℤ pos (get_or row g 0)) ∙ one-mul (pos (get_or row g 0))

-- kind 2: the ramp with the window's coefficients
pub ramp-weighs : {b : List ℕ} {z : Plan} {s t : ℕ} {row : List ℕ} {k : Coefficients} {a d : ℤ} → Planned b z → z.kind ≡ 2 → s < z.width →
    t < z.height → Ramp z.guides row → WeighsAt (frame_of b) s t k → CoefficientsSmall k → a ≡ k.slope → d ≡ k.offset
    → Weighs (frame_of b) s t row (record { slope = a; offset = d })
ramp-weighs {b} {s = s} {t} {row} {a = a} {d} pl two hs ht ra w small ea ed =
    let f = facts pl in
    let guided = sym f.kind ∙ two in
    let by : (h : ℕ) → h < (frame_of b).set.guides → weight (frame_of b) s t h ≡ weight_by row (record { slope = a; offset = d }) h =
    λ h l. weight-linear (pixel-of pl hs ht) h guided ∙ ap₂ (λ (x y : ℤ). x *ℤ pos h +ℤ y) (sym (ea ∙ w.slope))
    (sym (ed ∙ w.offset)) ∙ ap (λ (x : ℕ). a *ℤ pos x +ℤ d) (sym (ra.is h (rw f.guides l))) in
    record {
      fits = record {
        inside = omega (arith, ra.long, f.guides);
        small = record { slope = rw ea small.slope; offset = rw ed small.offset };
        low = λ h l. subst (λ (q : ℤ). nat_abs q ≤ 180155859075) (by h l) (guided-abs (pixel-of pl hs ht) guided h l);
      };
      is = by;
    }
