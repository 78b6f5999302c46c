-- The stores of a window can be searched, and what they say of its levels is the frame's own: weights, balance, answer, hollow test and box.
-- Assumes nothing.
use mathlib.Core.Path.{◌≡◌, refl, sym, ap, ap₂, ◌∙◌, subst}
use mathlib.Core.Bool.{Bool, true, false, ◌&&◌}
use mathlib.Core.List.{List}
use Prim.Native.Nat.{ℕ, zero, suc, ◌+◌, ◌-◌, ◌*◌, ◌≤◌, ◌<◌, min}
use native.Mathlib.Nat.{zero-add, le_trans, le_refl, le_of_eq, mul-le-mul, suc-mul}
use native.Mathlib.Omega.{arith}
use lib.Dec.{eqb}
use lib.ListN.{replicate, length-replicate, get_or-replicate}
use lib.IntN.{ℤ, pos, ◌+ℤ◌, ◌-ℤ◌, ◌*ℤ◌}
use lib.Signed.{le_z}
use borrow.Author.Tests.{le-leb}
use Rattle.ints.specs.Polynomial.{◌⊕◌, ◌⊖◌, ◌⊗◌, #◌, ◌≐◌, solve2}
use Rattle.spec.specs.declared.Plan.{Plan}
use Rattle.std.specs.Prelude.{if◌then◌else◌}
use Rattle.spec.specs.Base.{indicator, sum, sumℤ}
use Rattle.spec.specs.Frame.{Frame, level, guide, frame_with}
use Rattle.spec.specs.Window.{in_cell, count, pixel_count, empty}
use Rattle.spec.specs.Median.{total_weight, cumulative, balance, median}
use Rattle.spec.specs.Weight.{own_weight, own_total, is_zero, weightless}
use Rattle.spec.specs.Joint.{joint_counts, occupancy_words, balance_box_at}
use Rattle.spec.proofs.Ranges.{fold-none, fold_same, int_sums, nat_sums}
use Rattle.spec.proofs.Histogram.{times, fold-pick, over-fold, over-joint}
use Rattle.spec.proofs.First.{first-unique}
use Rattle.spec.proofs.Sums.{sum-term, over-in_window, over-pos}
use Rattle.spec.proofs.Limits.{Pixel}
use Rattle.spec.proofs.Own.{weight-own, weight-one}
use Rattle.spec.proofs.Plans.{facts, pixel-of}
use Rattle.spec.proofs.Levels.{level_weight, cumulative-zero, cumulative-next, cumulative-last, times-is, level-joint, cell, box-cell}
use Rattle.spec.proofs.Totals.{median-first}
use Rattle.spec.proofs.Monotone.{cell-next}
use Rattle.spec.proofs.Bounds.{pixel_count-high}
use Rattle.joint_pixel.specs.Store.{count_in, Rep}
use Rattle.joint.proofs.ListLaws.{begun-long, rep-own, lists-rep, counts-long, bits-long}
use Rattle.joint.proofs.WindowLaws as joint
use Rattle.joint_cells.specs.Scan.{Marked, RowFits, cell_sum}
use Rattle.joint_search.specs.Levels.{cumulative_of, total_of, balance_of, weightless_of, median_of}
use Rattle.joint_search.specs.Search.{level_weight_in, balance_in, weightless_in, median_in, box_in, pixels_in, Searchable}
use Rattle.joint_search.specs.Window.{Counted, RowGives, RowOwn, RowWeighs, sizes_of}
use Rattle.joint_search.proofs.LevelsLaws as levels
use Rattle.joint_search.proofs.SearchLaws.{level-guides, box-is}

-- ---- which weights a window is counted with: its own, or ones
alike-fit : {m : ℕ} (v : ℕ) → m ≤ 256 → v ≤ 65535 → RowFits m (replicate 256 v)
alike-fit v h k = record {
  inside = rw (length-replicate {A = ℕ} 256 v) h;
  low = λ f l. rw (get_or-replicate {A = ℕ} 256 f v 0 (omega arith)) k;
}

pub ones-weigh : (p : Frame) (s t : ℕ) → p.set.guides ≤ 256 → weightless p s t ≡ true → RowWeighs p s t (replicate 256 1)
ones-weigh p s t h e = record {
  in-row = alike-fit 1 h (omega arith);
  is = λ f l. weight-one p s t f e ∙ ap pos (sym (get_or-replicate {A = ℕ} 256 f 1 0 (omega arith)));
}

pub own-weighs : (p : Frame) (s t : ℕ) {row : List ℕ} → weightless p s t ≡ false → RowOwn p s t row → RowWeighs p s t row
own-weighs p s t e r = record { in-row = r.in-row; is = λ f l. weight-own p s t f e ∙ r.is f l }

-- ---- a window's counts
once : (n : ℕ) → times ◌+◌ 0 n 1 ≡ n
unfolding times
once zero = refl
once (suc n) = omega (arith, once n)

module _ {p : Frame} {s t : ℕ} (k : Pixel p s t) where
  -- all together they are its pixels
  counts_all : sum (λ i. sum (λ f. count p s t i f) 0 p.set.guides) 0 p.set.levels ≡ pixel_count p s t
  unfolding pixel_count
  counts_all =
      sym (over-joint ◌+◌ 0 nat_sums p s t (λ i f. 1) k.good.level-low k.good.guide-low
      ∙ fold_same ◌+◌ 0 nat_sums _ _ 0 p.set.levels (λ i x y. fold_same ◌+◌ 0 nat_sums _ _ 0 p.set.guides (λ f u v. once (count p s t i f))))

  -- those of a guide: each pixel of it has one of the levels
  one-level : (v l : ℕ) (b : Bool) → v < l → sumℤ (λ i. pos (indicator (eqb v i && b))) 0 l ≡ (if b then pos 1 else pos 0)
  one-level v l true h = fold_same ◌+ℤ◌ (pos 0) int_sums _ _ 0 l (λ i x y. same (eqb v i)) ∙ fold-pick ◌+ℤ◌ (pos 0) int_sums (λ i. pos 1) v l h
    where
      same : (a : Bool) → pos (indicator (a && true)) ≡ (if a then pos 1 else pos 0)
      same true = refl
      same false = refl
  one-level v l false h = fold_same ◌+ℤ◌ (pos 0) int_sums _ _ 0 l (λ i x y. same (eqb v i)) ∙ fold-none ◌+ℤ◌ (pos 0) int_sums 0 l
    where
      same : (a : Bool) → pos (indicator (a && false)) ≡ pos 0
      same true = refl
      same false = refl

  guide-all : (f : ℕ) → total_of (λ i. pos (count p s t i f)) p.set.levels ≡ cell p s t (p.set.levels - 1) f
  unfolding total_of count cell
  guide-all f =
      fold_same ◌+ℤ◌ (pos 0) int_sums _ _ 0 p.set.levels (λ i x y. sym (over-pos p s t (in_cell p i f)))
      ∙ sym (over-fold ◌+ℤ◌ (pos 0) int_sums p s t (λ i x y. pos (in_cell p i f x y)) p.set.levels)
      ∙ over-in_window ◌+ℤ◌ (pos 0) int_sums p s t _ _
      (λ x y h. let l = k.good.level-low x y h.wide h.high h.read in
      one-level (level p x y) p.set.levels (eqb (guide p x y) f) l ∙ sym (rw (le-leb (level p x y) (p.set.levels - 1) (omega arith)) refl))

  -- so a cell of the box is their balance: at the last cut point, and from there down
  cell-from : (d c f : ℕ) → c + d ≡ p.set.levels - 1 → cell p s t c f ≡ balance_of (λ i. pos (count p s t i f)) p.set.levels c
  cell-from zero c f e =
      let l = k.good.sound.levels_low in
      let q : c ≡ p.set.levels - 1 = omega arith in
      rw q (sym (guide-all f) ∙ sym (levels.balance-last (λ i. pos (count p s t i f)) p.set.levels (omega arith)))
  cell-from (suc d) c f e =
      let N : ℕ → ℤ = λ i. pos (count p s t i f) in
      let L = p.set.levels in
      solve2 (λ x n. x ≐ (x ⊕ # 2 ⊗ n) ⊖ # 2 ⊗ n) refl (cell p s t c f) (N (suc c))
      ∙ ap (λ (q : ℤ). q -ℤ pos 2 *ℤ N (suc c)) (sym (cell-next p s t c f) ∙ cell-from d (suc c) f (omega arith) ∙ levels.balance-next N L c)
      ∙ solve2 (λ x n. (x ⊕ # 2 ⊗ n) ⊖ # 2 ⊗ n ≐ x) refl (balance_of N L c) (N (suc c))

  cell-is : (c f : ℕ) → c < p.set.levels → cell p s t c f ≡ balance_of (λ i. pos (count p s t i f)) p.set.levels c
  cell-is c f h = cell-from (p.set.levels - 1 - c) c f (omega arith)

-- ---- the stores
module _ {b vs : List ℕ} {plan : Plan} {s t : ℕ} {cs ws : List ℕ} (st : Counted b vs plan s t cs ws) where
  pub spot : Pixel (frame_with b vs) s t
  spot = pixel-of st.pictured st.column st.row

  rep : Rep (frame_with b vs).set.levels (frame_with b vs).set.guides (count (frame_with b vs) s t) cs ws
  rep = lists-rep (frame_with b vs) s t spot cs ws st.counts st.words

  pub guides-eq : plan.guides ≡ (frame_with b vs).set.guides
  guides-eq = (facts st.pictured).guides

  pub levels-eq : plan.levels ≡ (frame_with b vs).set.levels
  levels-eq = (facts st.pictured).levels

  last : (i l n : ℕ) → i < l → i * n + n ≤ l * n
  last i l n h = let e : suc i ≤ l = omega arith in subst (λ (q : ℕ). q ≤ l * n) (suc-mul i n) (mul-le-mul e (le_refl n))

  level-cells : (i : ℕ) → i < (frame_with b vs).set.levels →
      cell_sum (frame_with b vs).set.guides i cs (frame_with b vs).set.guides
      ≡ sum (λ f. count (frame_with b vs) s t i f) 0 (frame_with b vs).set.guides
  unfolding cell_sum
  level-cells i h = let M =
      (frame_with b vs).set.guides in fold_same ◌+◌ 0 nat_sums _ _ 0 M (λ f u v. rep.cells i f h (subst (λ (q : ℕ). f < q) (zero-add M) v))

  all-cells : sum (λ i. cell_sum (frame_with b vs).set.guides i cs (frame_with b vs).set.guides) 0 (frame_with b vs).set.levels ≤ 961
  all-cells =
      le_trans (le_of_eq (fold_same ◌+◌ 0 nat_sums _ _ 0 (frame_with b vs).set.levels (λ i x y. level-cells i (omega arith)) ∙ counts_all spot))
      (pixel_count-high spot)

  level-few : (i : ℕ) → i < (frame_with b vs).set.levels → cell_sum (frame_with b vs).set.guides i cs (frame_with b vs).set.guides ≤ 961
  level-few i h =
      le_trans
      (sum-term (λ i. cell_sum (frame_with b vs).set.guides i cs (frame_with b vs).set.guides) 0 (frame_with b vs).set.levels i (omega arith)
      (omega arith))
      all-cells

  marked : (i : ℕ) → i < (frame_with b vs).set.levels → Marked (frame_with b vs).set.guides i cs ws
  marked i h = record {
    guides = spot.good.sound.guides_high;
    level = omega (arith, spot.good.sound.levels_high);
    cells = le_trans (last i _ _ h) (begun-long _ cs (joint_counts (frame_with b vs) s t) (counts-long (frame_with b vs) s t spot) st.counts);
    words = le_trans (last i _ _ h) (begun-long _ ws (occupancy_words (frame_with b vs) s t) (bits-long (frame_with b vs) s t spot) st.words);
    marks = λ g l. rep.marks i g h l ∙ ap (min 1) (rep-own _ _ _ cs ws rep i g h);
    few = level-few i h;
  }

  pub searchable : Searchable (sizes_of plan) cs ws
  unfolding pixels_in
  searchable = record {
    guides = rw guides-eq spot.good.sound.guides_high;
    levels = rw levels-eq spot.good.sound.levels_high;
    marked = λ i h. rw guides-eq (marked i (rw levels-eq at h));
    few = rw (guides-eq, levels-eq) all-cells;
  }

  -- the box
  pub box_of_lem : (c : ℕ) → c < plan.levels → balance_box_at (frame_with b vs) s t c ≡ box_in (sizes_of plan) cs c
  box_of_lem c h =
      let h' : c < (frame_with b vs).set.levels = rw levels-eq at h in
      box-is (sizes_of plan) cs c (balance_box_at (frame_with b vs) s t c) (joint.box_long (frame_with b vs) s t c)
      (λ f l. box-cell (frame_with b vs) s t c f l ∙ cell-is spot c f h'
      ∙ levels.balance-same (λ i u. ap pos (rep-own _ _ _ cs ws rep i f u)) c h'
      ∙ sym (ap₂ (λ (m n : ℕ). balance_of (λ i. pos (count_in m cs i f)) n c) guides-eq levels-eq))

  -- a box that is the counts' at x is the window's at k, where the two are one level
  pub box-at : {x k : ℕ} {bx : List ℤ} → bx ≡ box_in (sizes_of plan) cs x → x ≡ k → k < plan.levels → bx ≡ balance_box_at (frame_with b vs) s t k
  box-at {k = k} e d h = e ∙ ap (box_in (sizes_of plan) cs) d ∙ sym (box_of_lem k h)

  -- ---- with a row of weights of the window
  module _ {row : List ℕ} {weigh : ℕ → ℤ} (gives : RowGives weigh (frame_with b vs).set.guides row) where
    pub row_fits : RowFits plan.guides row
    row_fits = rw guides-eq gives.in-row

    level_by : (i : ℕ) → i < plan.levels →
        level_weight_in plan.guides cs row i ≡ sumℤ (λ f. pos (count (frame_with b vs) s t i f) *ℤ weigh f) 0 (frame_with b vs).set.guides
    level_by i h =
        let M = (frame_with b vs).set.guides in
        let h' : i < (frame_with b vs).set.levels = rw levels-eq at h in
        ap (λ (m : ℕ). level_weight_in m cs row i) guides-eq ∙ level-guides M i cs row
        ∙ fold_same ◌+ℤ◌ (pos 0) int_sums _ _ 0 M (λ f u v. let l : f < M = subst (λ (q : ℕ). f < q) (zero-add M) v in
        ap₂ (λ (n : ℕ) (x : ℤ). pos n *ℤ x) (rep.cells i f h' l) (sym (gives.is f l)))

  -- its own weights: the hollow test, where there is a reading
  pub weightless-is : {row : List ℕ} → empty (frame_with b vs) s t ≡ false → RowOwn (frame_with b vs) s t row
      → weightless_in (sizes_of plan) cs row ≡ weightless (frame_with b vs) s t
  unfolding weightless_of weightless total_of own_total
  weightless-is {row} r own =
      let p = frame_with b vs in
      rw r
      (ap is_zero
      (fold_same ◌+ℤ◌ (pos 0) int_sums _ _ 0 plan.levels (λ i x y. level_by own i (omega arith)
      ∙ fold_same ◌+ℤ◌ (pos 0) int_sums _ _ 0 p.set.guides (λ f u v. sym (times-is (count p s t i f) (own_weight p s t f))))
      ∙ ap (λ (l : ℕ). sumℤ (λ i. sumℤ (λ f. times ◌+ℤ◌ (pos 0) (count p s t i f) (own_weight p s t f)) 0 p.set.guides) 0 l) levels-eq
      ∙ sym (over-joint ◌+ℤ◌ (pos 0) int_sums p s t (λ i f. own_weight p s t f) spot.good.level-low spot.good.guide-low)))

  -- the weights that it is counted with
  module _ {row : List ℕ} (weighs : RowWeighs (frame_with b vs) s t row) where
    level_is : (i : ℕ) → i < plan.levels → level_weight_in plan.guides cs row i ≡ level_weight (frame_with b vs) s t i
    level_is i h = level_by weighs i h ∙ sym (level-joint spot i)

    cumulative-is : (c : ℕ) → c < plan.levels → cumulative_of (level_weight_in plan.guides cs row) c ≡ cumulative (frame_with b vs) s t c
    cumulative-is zero h = levels.cumulative-zero _ ∙ level_is 0 h ∙ sym (cumulative-zero (frame_with b vs) s t)
    cumulative-is (suc c) h =
        levels.cumulative-next _ c ∙ ap₂ (λ (x y : ℤ). x +ℤ y) (cumulative-is c (omega arith)) (level_is (suc c) h) ∙ sym
        (cumulative-next (frame_with b vs) s t c)

    some : 0 < plan.levels
    some = omega (arith, levels-eq, spot.good.sound.levels_low)

    pub total_is : total_of (level_weight_in plan.guides cs row) plan.levels ≡ total_weight (frame_with b vs) s t
    total_is =
        sym (levels.cumulative-last _ plan.levels some) ∙ cumulative-is (plan.levels - 1) (omega (arith, some)) ∙ ap
        (λ (l : ℕ). cumulative (frame_with b vs) s t (l - 1)) levels-eq ∙ cumulative-last spot

    pub balance_is : (c : ℕ) → c < plan.levels → balance_in (sizes_of plan) cs row c ≡ balance (frame_with b vs) s t c
    unfolding balance_of balance
    balance_is c h = ap₂ (λ (u v : ℤ). pos 2 *ℤ u -ℤ v) (cumulative-is c h) total_is

    pub median-is : median_in (sizes_of plan) cs row ≡ median (frame_with b vs) s t
    unfolding median_of
    median-is =
        let f = median-first (frame_with b vs) s t in
        let same : (i : ℕ) → i < plan.levels →
        le_z (total_of (level_weight_in plan.guides cs row) plan.levels) (pos 2 *ℤ cumulative_of (level_weight_in plan.guides cs row) i) ≡
        le_z (total_weight (frame_with b vs) s t) (pos 2 *ℤ cumulative (frame_with b vs) s t i) =
        λ i h. ap₂ (λ (u v : ℤ). le_z u (pos 2 *ℤ v)) total_is (cumulative-is i h) in
        first-unique _ plan.levels (median (frame_with b vs) s t)
        (record {
          within = rw levels-eq f.within;
          passes = λ h. same (median (frame_with b vs) s t) h ∙ f.passes (rw levels-eq at h);
          before = λ j h. same j (omega (arith, f.within, levels-eq)) ∙ f.before j h;
        })
