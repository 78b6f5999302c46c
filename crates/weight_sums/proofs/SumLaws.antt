-- Laws of a window's weight sums by block: what a list's pixels add to each, and column after column.
-- Assumes nothing.
use mathlib.Core.Path.{◌≡◌, refl, sym, ap, ap₂, ◌∙◌}
use mathlib.Core.Bool.{true}
use mathlib.Core.Logic.{⊎_elim}
use mathlib.Core.List.{List, []}
use Prim.Native.Nat.{ℕ, ◌+◌, ◌-◌, ◌*◌, ◌≤◌, ◌<◌}
use native.Mathlib.Omega.{arith}
use lib.Dec.{eqb}
use lib.ListN.{length, get_or, set, replicate, length-set, length-replicate, get_or-replicate, get_or-eq_default}
use lib.Seq.{get_or-set_same, get_or-set_other}
use lib.IntN.{ℤ, pos, nat_abs, ◌+ℤ◌, +ℤ_idr, +ℤ_assoc}
use borrow.Author.Tests.{eq-eqb, ne_eqb}
use Rattle.ints.specs.Bound.{abs-add}
use Rattle.ints.specs.Order.{eq-or-ne, lt-or-le}
use Rattle.spec.specs.declared.Plan.{Plan}
use Rattle.std.specs.Prelude.{if◌then◌else◌}
use Rattle.spec.specs.Frame.{Frame, frame_of}
use Rattle.spec.specs.Window.{span, empty}
use Rattle.spec.specs.Weight.{weight}
use Rattle.spec.proofs.Plans.{facts}
use Rattle.spec.proofs.Ranges.{int_sums, fold_same}
use Rattle.spec.proofs.Sums.{over-empty}
use Rattle.spec.proofs.Own.{empty-count}
use Rattle.window.specs.declared.line.Line.{Line}
use Rattle.window.specs.Line.{column_line}
use Rattle.pixels.specs.declared.Pixel.{Pixel}
use Rattle.pixels.specs.Pixels.{count_of, level_in, guide_in, pixel_fold_to, pixel_fold, columns_fold, LinePixels}
use Rattle.pixels.proofs.AdditiveLaws.{pixels-none, pixels-more, high-abs, columns-none, columns-more, columns-window}
use Rattle.balance.specs.declared.formula.Formula.{Formula}
use Rattle.balance.specs.Formula.{weight_by, Weighs}
use Rattle.balance.specs.Balance.{PixelsWeighed, Weighed}
use Rattle.balance.proofs.BalanceLaws.{pixels-weighed}
use Rattle.weight_sums.specs.Sums.{block_of, weight_in, block_share, LineBlocks, BlocksAdded, Zeros, BlocksFit, Gathered}

-- ---- what a pixel adds to its block, and to another
module _ (width : ℕ) (ns : List ℕ) (w : Formula) (i g : ℕ) where
  share-here : (b : ℕ) → b ≡ block_of width i → block_share width ns w b i g ≡ weight_by ns w g
  unfolding block_share
  share-here b e = rw (eq-eqb (block_of width i) b (sym e))

  share-away : (b : ℕ) → (b ≡ block_of width i → ⊥) → block_share width ns w b i g ≡ pos 0
  unfolding block_share
  share-away b d = rw (ne_eqb (block_of width i) b (λ e. d (sym e)))

-- ---- along a list
pub added_none : (width : ℕ) (p : List Pixel) (ns : List ℕ) (w : Formula) (xs : List ℤ) → BlocksAdded width p ns w 0 xs xs
added_none width p ns w xs = record {
  long = refl;
  blocks = λ b. rw (pixels-none ◌+ℤ◌ (pos 0) p (block_share width ns w b)) (sym (+ℤ_idr (get_or xs b (pos 0))));
}

module _ (width : ℕ) {p : List Pixel} {ns : List ℕ} {w : Formula} (v : PixelsWeighed p ns w) where
  abbrev added : ℕ → ℕ → ℤ
  added b k = pixel_fold_to ◌+ℤ◌ (pos 0) p (block_share width ns w b) k

  share-abs : (b k : ℕ) → k < count_of p → nat_abs (block_share width ns w b (level_in p k) (guide_in p k)) ≤ 180155859075
  share-abs b k h =
      ⊎_elim (λ e. rw (share-here width ns w (level_in p k) (guide_in p k) b e) (v.low k h))
      (λ d. rw (share-away width ns w (level_in p k) (guide_in p k) b d) (omega arith)) (eq-or-ne b (block_of width (level_in p k)))

  list-abs : (b k : ℕ) → k ≤ count_of p → nat_abs (added b k) ≤ k * 180155859075
  list-abs b k h = high-abs p (block_share width ns w b) 180155859075 k (λ j l. share-abs b j (omega arith))

  list-small : (b : ℕ) → nat_abs (added b (count_of p)) ≤ 5584831631325
  list-small b = omega (arith, list-abs b (count_of p) (omega arith), v.few)

  -- one pixel more, of weight y
  module _ {xs ys : List ℤ} (r : LineBlocks width p xs) {k : ℕ} (h : k < count_of p) (g : BlocksAdded width p ns w k xs ys) where
    abbrev block : ℕ
    block = block_of width (level_in p k)

    abbrev sum : ℤ
    sum = get_or ys block (pos 0)

    pub place_in : block < length ys
    place_in = omega (arith, r.inside k h, g.long)

    pub sum_low : nat_abs sum ≤ 172949624712000
    sum_low = rw (g.blocks block)
        (omega (arith, abs-add (get_or xs block (pos 0)) (added block k), r.low k h, list-abs block k (omega arith), v.few))

    pub added_next : (value : ℤ) → value ≡ sum +ℤ weight_by ns w (guide_in p k) → BlocksAdded width p ns w (k + 1) xs (set ys block value)
    added_next value is = record {
      long = length-set ys block _ ∙ g.long;
      blocks = λ b. ⊎_elim (at_block b) (off-block b) (eq-or-ne b block) ∙ more b;
    }
      where
        share : ℕ → ℤ
        share b = block_share width ns w b (level_in p k) (guide_in p k)

        at_block : (b : ℕ) → b ≡ block → get_or (set ys block value) b (pos 0) ≡ get_or ys b (pos 0) +ℤ share b
        at_block b q = rw q (get_or-set_same ys block value (pos 0) place_in ∙ is
            ∙ ap (λ (u : ℤ). sum +ℤ u) (sym (share-here width ns w (level_in p k) (guide_in p k) block refl)))

        off-block : (b : ℕ) → (b ≡ block → ⊥) → get_or (set ys block value) b (pos 0) ≡ get_or ys b (pos 0) +ℤ share b
        off-block b d = get_or-set_other ys block b value (pos 0) d ∙ sym (+ℤ_idr (get_or ys b (pos 0)))
            ∙ ap (λ (u : ℤ). get_or ys b (pos 0) +ℤ u) (sym (share-away width ns w (level_in p k) (guide_in p k) b d))

        more : (b : ℕ) → get_or ys b (pos 0) +ℤ share b ≡ get_or xs b (pos 0) +ℤ added b (k + 1)
        more b = ap (λ (u : ℤ). u +ℤ share b) (g.blocks b) ∙ +ℤ_assoc (get_or xs b (pos 0)) (added b k) (share b)
            ∙ ap (λ (u : ℤ). get_or xs b (pos 0) +ℤ u) (sym (pixels-more ◌+ℤ◌ (pos 0) p (block_share width ns w b) k))

-- ---- column by column: what a pixel of the window adds to block j, and the sums with the first k columns in them
abbrev window_share : ℕ → Frame → ℕ → ℕ → ℕ → ℕ → ℕ → ℤ
window_share width p s t j i g = if eqb (block_of width i) j then weight p s t g else pos 0

pub record ColumnsAdded (width : ℕ) (b : List ℕ) (z : Plan) (s t x k : ℕ) (xs ys : List ℤ) : Type 0 where
  pub long : length ys ≡ length xs
  pub blocks : (j : ℕ) → get_or ys j (pos 0) ≡ columns_fold ◌+ℤ◌ (pos 0) b [] z x t (window_share width (frame_of b) s t j) k
  pub low : (j : ℕ) → nat_abs (get_or ys j (pos 0)) ≤ k * 5584831631325

pub columns-start : (width : ℕ) (b : List ℕ) (z : Plan) (s t x : ℕ) {xs : List ℤ} → Zeros xs → ColumnsAdded width b z s t x 0 xs xs
columns-start width b z s t x g = record {
  long = refl;
  blocks = λ j. g.zero j ∙ sym (columns-none ◌+ℤ◌ (pos 0) b [] z x t (window_share width (frame_of b) s t j));
  low = λ j. rw (g.zero j) (omega arith);
}

module _ (width : ℕ) {b : List ℕ} {z : Plan} {s t : ℕ} {ns : List ℕ} {w : Formula} (wd : Weighed b z s t ns w)
    (gives : Weighs (frame_of b) s t ns w) where
  -- a column's list p
  module _ {d : Line} {p : List Pixel} (v : LinePixels b [] z d p) where
    list-adds : (j : ℕ) → pixel_fold ◌+ℤ◌ (pos 0) p (block_share width ns w j) ≡ pixel_fold ◌+ℤ◌ (pos 0) p (window_share width (frame_of b) s t j)
    unfolding pixel_fold_to block_share
    list-adds j =
        fold_same ◌+ℤ◌ (pos 0) int_sums _ _ 0 _
        (λ k l h. ap (λ (q : ℤ). if eqb (block_of width (level_in p k)) j then q else pos 0) (sym (gives.is (guide_in p k) (guide-in k (omega arith)))))
      where
        guide-in : (k : ℕ) → k < count_of p → guide_in p k < (frame_of b).set.guides
        guide-in k h = omega (arith, v.below.guide k h, (facts wd.planned).guides)

    module _ {x k : ℕ} {xs ys : List ℤ} (g : ColumnsAdded width b z s t x k xs ys) where
      pub list-asks : BlocksFit width z.levels xs → k < 31 → (PixelsWeighed p ns w) × (LineBlocks width p ys)
      list-asks fit few = (
        pixels-weighed wd v,
        record {
          inside = λ j h. let l = fit.inside (level_in p j) (v.below.level j h) in omega (arith, l, g.long);
          low = λ j h. omega (arith, g.low (block_of width (level_in p j)));
        },
      )

      pub columns-next : {zs : List ℤ} → d ≡ column_line z (x + k) t → BlocksAdded width p ns w (count_of p) ys zs
          → ColumnsAdded width b z s t x (k + 1) xs zs
      columns-next ed a = record {
        long = a.long ∙ g.long;
        blocks = λ j. a.blocks j ∙ ap₂ ◌+ℤ◌ (g.blocks j) (list-adds j)
            ∙ sym (columns-more ◌+ℤ◌ (pos 0) b [] z x t (window_share width (frame_of b) s t j) k p ed (v.sumℤ (window_share width (frame_of b) s t j)));
        low = λ j. rw (a.blocks j) (omega (
          arith,
          abs-add (get_or ys j (pos 0)) (pixel_fold ◌+ℤ◌ (pos 0) p (block_share width ns w j)),
          g.low j,
          list-small width (pixels-weighed wd v) j,
        ));
      }

  -- all columns
  pub columns-all : {x n : ℕ} {xs ys : List ℤ} → x ≡ s - z.radius → n ≡ span z.radius s z.width
      → ColumnsAdded width b z s t x n xs ys → Gathered width (frame_of b) s t xs ys
  unfolding weight_in
  columns-all {x} ex en g = record {
    long = g.long;
    blocks = λ j. g.blocks j ∙ columns-window ◌+ℤ◌ (pos 0) b [] z x t (window_share width (frame_of b) s t j) wd.planned s ex en;
  }

-- ---- zeros to begin with
pub zeros-made : (n : ℕ) → Zeros (replicate n (pos 0))
zeros-made n = record {
  zero = λ b. ⊎_elim (λ h. get_or-replicate n b (pos 0) (pos 0) h) (λ h. get_or-eq_default (replicate n (pos 0)) (pos 0)
      (omega (arith, length-replicate {A = ℤ} n (pos 0)))) (lt-or-le b n);
}

-- a window with no reading adds nothing
pub gathered-empty : (width : ℕ) {p : Frame} {s t : ℕ} → empty p s t ≡ true → {xs : List ℤ} → Zeros xs → Gathered width p s t xs xs
unfolding weight_in
gathered-empty width {p} {s} {t} e g = record {
  long = refl;
  blocks = λ b. g.zero b ∙ sym (over-empty p s t ◌+ℤ◌ (pos 0) int_sums _ (empty-count p s t e));
}
