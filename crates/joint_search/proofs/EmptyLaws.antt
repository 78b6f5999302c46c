-- Levels without a pixel: none of them has a count, so that balance and box are the same at their end as before them.
-- Assumes nothing.
use mathlib.Core.Path.{◌≡◌, refl, sym, ap, ◌∙◌, subst}
use mathlib.Core.Logic.{⊎_elim}
use mathlib.Core.List.{List}
use Prim.Native.Nat.{ℕ, zero, suc, ◌+◌, ◌-◌, ◌*◌, ◌/◌, ◌%◌, ◌^◌, ◌≤◌, ◌<◌, min}
use native.Mathlib.Nat.{zero-add, zero-mul, zero-div, add-zero, add-mul, one-mul, mul-le-mul, le_refl, suc-mul}
use native.Mathlib.Omega.{arith}
use lib.ListN.{length, get_or}
use lib.IntN.{ℤ, pos, ◌+ℤ◌, ◌*ℤ◌}
use lib.Signed.{◌<ℤ◌}
use Rattle.ints.specs.Polynomial.{◌⊕◌, ◌⊗◌, #◌, ◌≐◌, solve1}
use Rattle.spec.specs.Base.{fold, sum}
use Rattle.joint_pixel.specs.Bit.{bit}
use Rattle.joint_pixel.specs.Store.{word_at, words_per, count_in}
use Rattle.joint_pixel.proofs.BitLaws.{lt-or-le}
use Rattle.joint_pixel.proofs.RepLaws.{count-in, count-out}
use Rattle.joint_cells.specs.Scan.{cell_dot}
use Rattle.joint_cells.specs.Vacant.{WordsFit}
use Rattle.joint_search.specs.declared.Sizes.{Sizes}
use Rattle.joint_search.specs.Levels.{balance_of}
use Rattle.joint_search.specs.Search.{level_weight_in, balance_in, box_in, Searchable, NoPixel}
use Rattle.joint_search.proofs.LevelsLaws.{balance-next}
use Rattle.joint_search.proofs.SearchLaws.{box_long, box-cell, box-is}

-- ---- what the tests of a block ask
pub words-fit : {sizes : Sizes} {cs ws : List ℕ} → Searchable sizes cs ws → (i : ℕ) → i < sizes.levels → WordsFit sizes.levels sizes.guides ws
words-fit {sizes} {cs} {ws} st i h = record { guides = st.guides; levels = st.levels; words = words }
  where
    words : sizes.levels * words_per sizes.guides ≤ length ws
    words =
        let last = (st.marked (sizes.levels - 1) (omega arith)).words in
        let e : suc (sizes.levels - 1) ≡ sizes.levels = omega arith in
        subst (λ (q : ℕ). q * words_per sizes.guides ≤ length ws) e
        (subst (λ (q : ℕ). q ≤ length ws) (sym (suc-mul (sizes.levels - 1) (words_per sizes.guides))) last)

-- ---- numbers of levels that are 0 change no balance
still : (X : ℕ → ℤ) (l i n : ℕ) → ((d : ℕ) → d < n → X (i + 1 + d) ≡ pos 0) → balance_of X l (i + n) ≡ balance_of X l i
still X l i zero h = ap (balance_of X l) (add-zero i)
still X l i (suc n) h =
    let e : i + suc n ≡ suc (i + n) = omega arith in
    let e' : suc (i + n) ≡ i + 1 + n = omega arith in
    ap (balance_of X l) e ∙ balance-next X l (i + n) ∙ ap (λ (q : ℤ). balance_of X l (i + n) +ℤ pos 2 *ℤ q) (ap X e' ∙ h n (omega arith))
    ∙ solve1 (λ x. x ⊕ # 2 ⊗ # 0 ≐ x) refl (balance_of X l (i + n)) ∙ still X l i n (λ d k. h d (omega arith))

-- ---- an empty block
bit-none : (b : ℕ) → bit 0 b ≡ 0
unfolding bit
bit-none b = ap (λ (q : ℕ). q % 2) (zero-div (2 ^ b))

min-none : (n : ℕ) → min 1 n ≡ 0 → n ≡ 0
min-none n e = omega arith

sum_zeros : (f : ℕ → ℕ) (n : ℕ) → ((i : ℕ) → i < n → f i ≡ 0) → sum f 0 n ≡ 0
unfolding fold
sum_zeros f zero h = refl
sum_zeros f (suc n) h = omega (arith, sum_zeros f n (λ i l. h i (omega arith)), ap f (zero-add n), h n (omega arith))

-- the place of a word of the block
place : (a d k g : ℕ) → (a + d) * k + g ≡ a * k + (d * k + g)
place a d k g = omega (arith, add-mul a d k)

inside : (d k g n : ℕ) → d < n → g < k → d * k + g < n * k
inside d k g n h l = omega (arith, mul-le-mul {n₁ = d + 1} {m₁ = k} {n₂ = n} {m₂ = k} (omega arith) (le_refl k), add-mul d 1 k, one-mul k)

module _ {sizes : Sizes} {cs ws : List ℕ} (st : Searchable sizes cs ws) (i n : ℕ) (v : NoPixel sizes (i + 1) n ws) where
  abbrev m : ℕ
  m = sizes.guides

  word_none : (d g : ℕ) → d < n → g / 64 < words_per m → get_or ws (word_at m (i + 1 + d) g) 0 ≡ 0
  word_none d g h k =
      ap (λ (q : ℕ). get_or ws q 0) (place (i + 1) d (words_per m) (g / 64))
      ∙ v.clear.zeros (d * words_per m + g / 64) (inside d (words_per m) (g / 64) n h k)

  none : (d f : ℕ) → d < n → count_in m cs (i + 1 + d) f ≡ 0
  none d f h = ⊎_elim guide (λ l. count-out m (i + 1 + d) f cs l) (lt-or-le f m)
    where
      guide : f < m → count_in m cs (i + 1 + d) f ≡ 0
      guide l =
          let e : bit (get_or ws (word_at m (i + 1 + d) f) 0) (f % 64) ≡ 0 =
          ap (λ (q : ℕ). bit q (f % 64)) (word_none d f h (omega arith)) ∙ bit-none (f % 64) in
          min-none (count_in m cs (i + 1 + d) f) (sym ((st.marked (i + 1 + d) (omega (arith, v.whole))).marks f (omega arith)) ∙ e)

  pub box-still : box_in sizes cs (i + n) ≡ box_in sizes cs i
  box-still =
      box-is sizes cs i (box_in sizes cs (i + n)) (box_long sizes cs (i + n))
      (λ f l. box-cell sizes cs (i + n) f l ∙ still (λ j. pos (count_in m cs j f)) sizes.levels i n (λ d h. ap pos (none d f h)))

  weight-none : (row : List ℕ) (d : ℕ) → d < n → level_weight_in m cs row (i + 1 + d) ≡ pos 0
  unfolding cell_dot
  weight-none row d h =
      ap pos
      (sum_zeros _ m (λ f l. ap (λ (q : ℕ). q * get_or row f 0) (sym (count-in m (i + 1 + d) f cs l) ∙ none d f h) ∙ zero-mul (get_or row f 0)))

  pub balance-still : (row : List ℕ) (k : ℕ) → k ≤ n → balance_in sizes cs row (i + k) ≡ balance_in sizes cs row i
  balance-still row k h = still (level_weight_in m cs row) sizes.levels i k (λ d l. weight-none row d (omega arith))

  -- so that a climb passes over it
  pub climb-over : (row : List ℕ) (c : ℕ) → balance_in sizes cs row i <ℤ pos 0 → ((j : ℕ) → c ≤ j → j < i → balance_in sizes cs row j <ℤ pos 0)
      → (j : ℕ) → c ≤ j → j < i + n → balance_in sizes cs row j <ℤ pos 0
  climb-over row c l before j u h =
      ⊎_elim (λ x. before j u x)
      (λ x. let e : i + (j - i) ≡ j = omega arith in
      subst (λ (q : ℕ). balance_in sizes cs row q <ℤ pos 0) e
      (subst (λ (q : ℤ). q <ℤ pos 0) (sym (balance-still row (j - i) (omega arith))) l))
      (lt-or-le j i)

-- ---- the same from the last of them
module _ {sizes : Sizes} {cs ws : List ℕ} (st : Searchable sizes cs ws) (i n : ℕ) (h : n ≤ i) (v : NoPixel sizes (i + 1 - n) n ws) where
  turned : NoPixel sizes (i - n + 1) n ws
  turned = let e : i + 1 - n ≡ i - n + 1 = omega arith in subst (λ (q : ℕ). NoPixel sizes q n ws) e v

  top : i - n + n ≡ i
  top = omega arith

  pub box-down : box_in sizes cs i ≡ box_in sizes cs (i - n)
  box-down = ap (box_in sizes cs) (sym top) ∙ box-still st (i - n) n turned

  pub balance-down : (row : List ℕ) → balance_in sizes cs row i ≡ balance_in sizes cs row (i - n)
  balance-down row = ap (balance_in sizes cs row) (sym top) ∙ balance-still st (i - n) n turned row n (le_refl n)
