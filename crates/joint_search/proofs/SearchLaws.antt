-- Laws of the search over counts, words and a row of weights: how large its numbers can be, what the box holds at each cut point, and what its loops
-- ask.
-- Assumes nothing.
use mathlib.Core.Path.{◌≡◌, refl, sym, ap, ap₂, ◌∙◌, subst}
use mathlib.Core.Logic.{⊎_elim}
use mathlib.Core.List.{List}
use Prim.Native.Nat.{ℕ, zero, suc, ◌+◌, ◌-◌, ◌*◌, ◌^◌, ◌≤◌, ◌<◌}
use native.Mathlib.Nat.{zero-add, le_trans, le_refl, le_of_eq}
use native.Mathlib.Numerals.{add-one}
use native.Mathlib.Omega.{arith}
use lib.ListN.{length, get_or, get_or-eq_default}
use lib.Seq.{ext_get_or}
use lib.IntN.{ℤ, pos, negsuc, nat_abs, ◌+ℤ◌, ◌*ℤ◌, +ℤ_idr, *ℤ-zero, *ℤ_comm}
use lib.Signed.{◌≤ℤ◌, ◌<ℤ◌, mag, clash_ℤ}
use mir.Syntax.{w32}
use mir.Val.{hbits, to_z, of_z}
use mir.Facts.{to_z-of_z}
use Rattle.ints.specs.Polynomial.{◌⊕◌, ◌⊗◌, opposite, #◌, ◌≐◌, solve2}
use Rattle.ints.specs.Order.{0≤pos}
use Rattle.ints.specs.Machine.{read-bounded}
use Rattle.spec.specs.Base.{fold, sum, sumℤ}
use Rattle.spec.proofs.First.{length-tabulate, get_d_tabulate}
use Rattle.spec.proofs.Histogram.{turn}
use Rattle.spec.proofs.Ranges.{fold_same, int_sums, nat_sums}
use Rattle.spec.proofs.Sums.{sum-pos, sum-le, sum-term}
use Rattle.joint_pixel.specs.Store.{cell_at, count_in}
use Rattle.joint_pixel.proofs.BitLaws.{lt-or-le}
use Rattle.joint_pixel.proofs.RepLaws.{count-in, count-out}
use Rattle.joint_cells.specs.Scan.{RowFits, cell_sum, cell_dot}
use Rattle.joint_cells.specs.Box.{BoxInBounds, CountsAdded, box_size}
use Rattle.joint_box.specs.Products.{box_part, box_dot}
use Rattle.joint_search.specs.declared.Sizes.{Sizes}
use Rattle.joint_search.specs.Levels.{balance_of}
use Rattle.joint_search.specs.Search.{level_weight_in, balance_in, box_in, pixels_in, Searchable}
use Rattle.joint_cells.proofs.ScanLaws.{sum-upto, sum-skip, dot-low}
use Rattle.joint_search.proofs.LevelsLaws.{balance-next, balance-last, balance-size, balance-same, balance-scale, balance-sum, total-low}

-- ---- a level's guides
guides-few : (m i n : ℕ) (cs : List ℕ) → sum (λ f. count_in m cs i f) 0 n ≤ cell_sum m i cs m
unfolding cell_sum
guides-few m i n cs = ⊎_elim below above (lt-or-le n m)
  where
    own : (k : ℕ) → k ≤ m → sum (λ f. count_in m cs i f) 0 k ≡ sum (λ f. get_or cs (cell_at m i f) 0) 0 k
    own k h = fold_same ◌+◌ 0 nat_sums _ _ 0 k (λ f x y. count-in m i f cs (omega arith))

    below : n < m → sum (λ f. count_in m cs i f) 0 n ≤ sum (λ f. get_or cs (cell_at m i f) 0) 0 m
    below h = rw (own n (omega arith)) (sum-upto (λ f. get_or cs (cell_at m i f) 0) n m (omega arith))

    above : m ≤ n → sum (λ f. count_in m cs i f) 0 n ≤ sum (λ f. get_or cs (cell_at m i f) 0) 0 m
    above h = le_of_eq (sum-skip (λ f. count_in m cs i f) m n h (λ f x y. count-out m i f cs x) ∙ own m (le_refl m))

-- the weight of a level, guide by guide; it is never negative
pub level-guides : (m i : ℕ) (cs row : List ℕ) → level_weight_in m cs row i ≡ sumℤ (λ f. pos (get_or cs (cell_at m i f) 0) *ℤ pos (get_or row f 0)) 0 m
unfolding cell_dot
level-guides m i cs row = sym (sum-pos (λ f. get_or cs (cell_at m i f) 0 * get_or row f 0) 0 m)

pub level-low : (m : ℕ) (cs row : List ℕ) (i : ℕ) → pos 0 ≤ℤ level_weight_in m cs row i
level-low m cs row i = 0≤pos

-- ---- the box
module _ (sizes : Sizes) (cs : List ℕ) where
  pub box_long : (c : ℕ) → length (box_in sizes cs c) ≡ 256
  unfolding box_in
  box_long c = length-tabulate 256 _

  pub box-cell : (c f : ℕ) → f < 256 → get_or (box_in sizes cs c) f (pos 0) ≡ balance_of (λ i. pos (count_in sizes.guides cs i f)) sizes.levels c
  unfolding box_in
  box-cell c f h = get_d_tabulate 256 _ f (pos 0) h

  pub box-is : (c : ℕ) (bx : List ℤ) → length bx ≡ 256 →
      ((f : ℕ) → f < 256 → get_or bx f (pos 0) ≡ balance_of (λ i. pos (count_in sizes.guides cs i f)) sizes.levels c) → bx ≡ box_in sizes cs c
  box-is c bx l e =
      ext_get_or (pos 0) bx (box_in sizes cs c) (l ∙ sym (box_long c)) (λ f h. let k : f < 256 =
      subst (λ (n : ℕ). f < n) l h in e f k ∙ sym (box-cell c f k))

  -- what a level's counts add, in every cell
  added-cell : (i : ℕ) (by : ℤ) (bx bx' : List ℤ) → CountsAdded sizes.guides i by cs sizes.guides bx bx' → (f : ℕ) →
      get_or bx' f (pos 0) ≡ get_or bx f (pos 0) +ℤ by *ℤ pos (count_in sizes.guides cs i f)
  added-cell i by bx bx' h f = ⊎_elim inside outside (lt-or-le f sizes.guides)
    where
      inside : f < sizes.guides → get_or bx' f (pos 0) ≡ get_or bx f (pos 0) +ℤ by *ℤ pos (count_in sizes.guides cs i f)
      inside l = h.cells f l ∙ ap (λ (n : ℕ). get_or bx f (pos 0) +ℤ by *ℤ pos n) (sym (count-in sizes.guides i f cs l))

      outside : sizes.guides ≤ f → get_or bx' f (pos 0) ≡ get_or bx f (pos 0) +ℤ by *ℤ pos (count_in sizes.guides cs i f)
      outside l =
          h.rest f l ∙ sym
          (ap (λ (n : ℕ). get_or bx f (pos 0) +ℤ by *ℤ pos n) (count-out sizes.guides i f cs l) ∙ ap (λ (q : ℤ). get_or bx f (pos 0) +ℤ q) (*ℤ-zero by)
          ∙ +ℤ_idr (get_or bx f (pos 0)))

  -- the cut point one level up, and one down
  pub raised : (c i : ℕ) (by : ℤ) (bx bx' : List ℤ) → bx ≡ box_in sizes cs c → CountsAdded sizes.guides i by cs sizes.guides bx bx' → i ≡ c + 1 →
      by ≡ pos 2 → bx' ≡ box_in sizes cs (c + 1)
  raised c i by bx bx' e h ei eb =
      box-is (c + 1) bx' (h.long ∙ ap length e ∙ box_long c)
      (λ f l. let N : ℕ → ℤ = λ i. pos (count_in sizes.guides cs i f) in
      added-cell i by bx bx' h f ∙ ap₂ (λ (j : ℕ) (k : ℤ). get_or bx f (pos 0) +ℤ k *ℤ N j) (ei ∙ add-one c) eb ∙ ap
      (λ (q : List ℤ). get_or q f (pos 0) +ℤ pos 2 *ℤ N (suc c)) e
      ∙ ap (λ (q : ℤ). q +ℤ pos 2 *ℤ N (suc c)) (box-cell c f l) ∙ sym (balance-next N sizes.levels c) ∙ ap (balance_of N sizes.levels)
      (sym (add-one c)))

  pub lowered : (c i : ℕ) (by : ℤ) (bx bx' : List ℤ) → bx ≡ box_in sizes cs (c + 1) → CountsAdded sizes.guides i by cs sizes.guides bx bx' →
      i ≡ c + 1 → by ≡ negsuc 1 → bx' ≡ box_in sizes cs c
  lowered c i by bx bx' e h ei eb =
      box-is c bx' (h.long ∙ ap length e ∙ box_long (c + 1))
      (λ f l. let N : ℕ → ℤ = λ i. pos (count_in sizes.guides cs i f) in
      added-cell i by bx bx' h f ∙ ap₂ (λ (j : ℕ) (k : ℤ). get_or bx f (pos 0) +ℤ k *ℤ N j) (ei ∙ add-one c) eb ∙ ap
      (λ (q : List ℤ). get_or q f (pos 0) +ℤ negsuc 1 *ℤ N (suc c)) e
      ∙ ap (λ (q : ℤ). q +ℤ negsuc 1 *ℤ N (suc c))
      (box-cell (c + 1) f l ∙ ap (balance_of N sizes.levels) (add-one c) ∙ balance-next N sizes.levels c)
      ∙ solve2 (λ x n. (x ⊕ # 2 ⊗ n) ⊕ opposite (# 2) ⊗ n ≐ x) refl (balance_of N sizes.levels c) (N (suc c)))

-- ---- no more pixels than a window has: the box's cells stay small
module _ {sizes : Sizes} {cs ws : List ℕ} (st : Searchable sizes cs ws) where
  cell-size : (c f : ℕ) → c < sizes.levels → f < 256 →
      nat_abs (get_or (box_in sizes cs c) f (pos 0)) ≤ sum (λ i. count_in sizes.guides cs i f) 0 sizes.levels
  cell-size c f h l =
      rw (box-cell sizes cs c f l)
      (balance-size (λ i. pos (count_in sizes.guides cs i f)) (λ i. count_in sizes.guides cs i f) sizes.levels c h (λ i k. le_refl _))

  box-sizes : (c n : ℕ) → c < sizes.levels → n ≤ 256 → box_size (box_in sizes cs c) n ≤ 961
  unfolding box_size pixels_in
  box-sizes c n h l =
      le_trans (sum-le _ (λ f. sum (λ i. count_in sizes.guides cs i f) 0 sizes.levels) 0 n
      (λ f x y. cell-size c f h (omega (arith, zero-add n))))
      (le_trans (le_of_eq (turn ◌+◌ 0 nat_sums (λ f i. count_in sizes.guides cs i f) 0 n 0 sizes.levels))
      (le_trans (sum-le _ (λ i. cell_sum sizes.guides i cs sizes.guides) 0 sizes.levels
      (λ i x y. guides-few sizes.guides i n cs)) st.few))

  pub box-bounds : (c : ℕ) (bx : List ℤ) → c < sizes.levels → bx ≡ box_in sizes cs c → BoxInBounds bx
  unfolding box_size
  box-bounds c bx h e =
      rw e (record { long = box_long sizes cs c; low = λ f. ⊎_elim (inside f) (beyond f) (lt-or-le f 256); few = λ n l. box-sizes c n h l })
    where
      inside : (f : ℕ) → f < 256 → nat_abs (get_or (box_in sizes cs c) f (pos 0)) ≤ 961
      inside f l =
          le_trans (sum-term (λ g. nat_abs (get_or (box_in sizes cs c) g (pos 0))) 0 (suc f) f (omega arith) (omega arith))
          (box-sizes c (suc f) h (omega arith))

      beyond : (f : ℕ) → 256 ≤ f → nat_abs (get_or (box_in sizes cs c) f (pos 0)) ≤ 961
      beyond f l = let k : length (box_in sizes cs c) ≤ f =
          rw (box_long sizes cs c) l in rw (get_or-eq_default (box_in sizes cs c) (pos 0) k) (omega arith)

-- ---- so do the weights
sum-times : (g : ℕ → ℕ) (n : ℕ) → sum (λ i. g i * 65535) 0 n ≡ sum g 0 n * 65535
unfolding fold
sum-times g zero = omega arith
sum-times g (suc n) = omega (arith, sum-times g n)

module _ {sizes : Sizes} {cs ws row : List ℕ} (st : Searchable sizes cs ws) (fits : RowFits sizes.guides row) where
  level-size : (i : ℕ) → i < sizes.levels →
      nat_abs (level_weight_in sizes.guides cs row i) ≤ cell_sum sizes.guides i cs sizes.guides * 65535
  unfolding cell_sum cell_dot
  level-size i h = dot-low (st.marked i h) fits sizes.guides (le_refl sizes.guides)

  pub level-abs : (i : ℕ) → i < sizes.levels → nat_abs (level_weight_in sizes.guides cs row i) ≤ 62979135
  level-abs i h = omega (arith, level-size i h, (st.marked i h).few)

  pub balance-abs : (c : ℕ) → c < sizes.levels → nat_abs (balance_in sizes cs row c) ≤ 62979135
  unfolding pixels_in
  balance-abs c h =
      omega (
        arith,
        balance-size (level_weight_in sizes.guides cs row) (λ i. cell_sum sizes.guides i cs sizes.guides * 65535) sizes.levels c h
            level-size,
        sum-times (λ i. cell_sum sizes.guides i cs sizes.guides) sizes.levels,
        st.few,
      )

  -- a balance comes back from 32 bits
  pub balance-back : (c : ℕ) (x : ℤ) → c < sizes.levels → x ≡ balance_in sizes cs row c → to_z w32 (of_z w32 x) ≡ balance_in sizes cs row c
  balance-back c x h e =
      ap (λ (q : ℤ). to_z w32 (of_z w32 q)) e ∙ read-bounded w32 {z = balance_in sizes cs row c} 62979135 (balance-abs c h) tt

  level-back : (i : ℕ) (y : ℤ) → i < sizes.levels → y ≡ level_weight_in sizes.guides cs row i →
      to_z w32 (of_z w32 y) ≡ level_weight_in sizes.guides cs row i
  level-back i y h e =
      ap (λ (q : ℤ). to_z w32 (of_z w32 q)) e ∙ read-bounded w32 {z = level_weight_in sizes.guides cs row i} 62979135 (level-abs i h) tt

  -- ---- from level to level
  pub room : (i : ℕ) → i < sizes.levels → balance_in sizes cs row i <ℤ pos 0 → i + 1 < sizes.levels
  room i h l = ⊎_elim (λ u. u) (λ u. absurd (full u)) (lt-or-le (i + 1) sizes.levels)
    where
      full : sizes.levels ≤ i + 1 → ⊥
      full u =
          let e : i ≡ sizes.levels - 1 = omega arith in
          clash_ℤ
          (subst (λ (x : ℤ). x <ℤ pos 0)
          (ap (balance_in sizes cs row) e ∙ balance-last (level_weight_in sizes.guides cs row) sizes.levels (omega arith)) l)
          (total-low (λ i _. level-low sizes.guides cs row i))

  pub step-asks : (i j : ℕ) (x y by : ℤ) → i < sizes.levels → j < sizes.levels → x ≡ balance_in sizes cs row i →
      y ≡ level_weight_in sizes.guides cs row j → nat_abs by ≤ 2
      → (nat_abs x ≤ 62979135) × (nat_abs by ≤ 2) × (nat_abs (to_z w32 (of_z w32 y)) ≤ 62979135)
  step-asks i j x y by hi hj ex ey hb = (rw ex (balance-abs i hi), hb, rw (level-back j y hj ey) (level-abs j hj))

  pub step-up : (i : ℕ) (x y v : ℤ) → i + 1 < sizes.levels → x ≡ balance_in sizes cs row i → y ≡ level_weight_in sizes.guides cs row (i + 1) →
      mag v < 2 ^ hbits w32 → v ≡ x +ℤ pos 2 *ℤ to_z w32 (of_z w32 y)
      → to_z w32 (of_z w32 v) ≡ balance_in sizes cs row (i + 1)
  step-up i x y v h ex ey m e =
      let X = level_weight_in sizes.guides cs row in
      to_z-of_z {w = w32} (record { sfits = m }) ∙ e ∙ ap₂ (λ (p q : ℤ). p +ℤ pos 2 *ℤ q) ex (level-back (i + 1) y h ey)
      ∙ ap (λ (q : ℕ). balance_in sizes cs row i +ℤ pos 2 *ℤ X q) (add-one i) ∙ sym (balance-next X sizes.levels i) ∙ ap (balance_in sizes cs row)
      (sym (add-one i))

  pub step_down : (i : ℕ) (x y v : ℤ) → 0 < i → i < sizes.levels → x ≡ balance_in sizes cs row i → y ≡ level_weight_in sizes.guides cs row i →
      mag v < 2 ^ hbits w32 → v ≡ x +ℤ negsuc 1 *ℤ to_z w32 (of_z w32 y)
      → to_z w32 (of_z w32 v) ≡ balance_in sizes cs row (i - 1)
  step_down i x y v p h ex ey m e =
      let X = level_weight_in sizes.guides cs row in
      let d : suc (i - 1) ≡ i = omega arith in
      let up : balance_in sizes cs row i ≡ balance_in sizes cs row (i - 1) +ℤ pos 2 *ℤ X i =
      ap (balance_in sizes cs row) (sym d) ∙ balance-next X sizes.levels (i - 1) ∙ ap (λ (q : ℕ). balance_in sizes cs row (i - 1) +ℤ pos 2 *ℤ X q)
      d in
      to_z-of_z {w = w32} (record { sfits = m }) ∙ e ∙ ap₂ (λ (p q : ℤ). p +ℤ negsuc 1 *ℤ q) (ex ∙ up) (level-back i y h ey)
      ∙ solve2 (λ x w. (x ⊕ # 2 ⊗ w) ⊕ opposite (# 2) ⊗ w ≐ x) refl (balance_in sizes cs row (i - 1)) (X i)

  -- ---- the balance by the box
  box-products : (c : ℕ) → c < sizes.levels → box_dot (box_in sizes cs c) row sizes.guides ≡ balance_in sizes cs row c
  unfolding box_part cell_dot
  box-products c h =
      let M = sizes.guides in
      let R : ℕ → ℕ = λ f. get_or row f 0 in
      fold_same ◌+ℤ◌ (pos 0) int_sums _ _ 0 M
      (λ f x y. ap (λ (q : ℤ). q *ℤ pos (R f)) (box-cell sizes cs c f (omega (arith, st.guides, zero-add M))) ∙ *ℤ_comm
      (balance_of (λ i. pos (count_in M cs i f)) sizes.levels c) (pos (R f))
      ∙ sym (balance-scale (pos (R f)) (λ i. pos (count_in M cs i f)) sizes.levels c))
      ∙ balance-sum (λ i f. pos (R f) *ℤ pos (count_in M cs i f)) sizes.levels c M
      ∙ balance-same (λ i k. fold_same ◌+ℤ◌ (pos 0) int_sums _ _ 0 M
      (λ f x y. ap (λ (n : ℕ). pos (R f) *ℤ pos n) (count-in M i f cs (omega (arith, zero-add M))) ∙ *ℤ_comm (pos (R f))
      (pos (get_or cs (cell_at M i f) 0)))
      ∙ sum-pos (λ f. get_or cs (cell_at M i f) 0 * R f) 0 M) c h

  pub box-balance : (c : ℕ) (bx : List ℤ) (r : ℤ) → c < sizes.levels → bx ≡ box_in sizes cs c → r ≡ box_dot bx row sizes.guides
      → r ≡ balance_in sizes cs row c
  box-balance c bx r h eb e = (rw eb at e) ∙ box-products c h
