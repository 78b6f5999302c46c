-- What the blocks of the column store hold, and the store's list from its blocks and back.
-- Assumes nothing.
use mathlib.Core.Path.{◌≡◌, refl, sym, ap, ap₂, ◌∙◌, subst}
use mathlib.Core.Bool.{Bool}
use mathlib.Core.List.{List, ◌++◌, append_assoc}
use Prim.Native.Nat.{ℕ, ◌+◌, ◌-◌, ◌*◌, ◌/◌, ◌%◌, ◌≤◌, ◌<◌}
use native.Mathlib.Nat.{le_refl, add-mul, mul_assoc, add-zero, zero-add, mul-one, add_assoc, div-add-mod', div-lt_iff_lt-mul, mod-lt}
use native.Mathlib.Omega.{arith}
use native.Mathlib.Decide.{ℕ_discrete, dec_lt}
use lib.Arith.{digits_lt, digits_div, digits_mod}
use lib.Dec.{eqb}
use lib.ListN.{length, get_or, drop, length-append, length-drop, get_or-append}
use lib.Seq.{ext_get_or, get_or-append-add, get_or-drop, drop_at}
use borrow.Author.Tests.{eq-eqb, ne_eqb}
use Rattle.std.specs.Prelude.{if◌then◌else◌}
use Rattle.spec.specs.Base.{fold_rect, sum, tabulate}
use Rattle.spec.specs.Frame.{Frame, level, guide}
use Rattle.spec.specs.Window.{span, over, in_column, in_row}
use Rattle.spec.specs.Columns.{column_sum, column_store}
use Rattle.spec.specs.Window.{level_sum}
use Rattle.spec.proofs.Ranges.{nat_sums, fold_same, fold-none, fold_rect-turn}
use Rattle.spec.proofs.Histogram.{fold-pick}
use Rattle.spec.proofs.First.{length-tabulate, get_d_tabulate}
use Rattle.columns.specs.Blocks.{at_level, pixel_d, strip_d, row_d, content_d, blocks_size}
use Rattle.columns.proofs.BlockLaws.{store-size, in-store}

-- ---- which block
pub data Which (w m : ℕ) : Type 0 where
  counts : m < w → Which w m
  guides : (x : ℕ) → x < w → m ≡ w + x → Which w m
  window : m ≡ 2 * w → Which w m
  window_guides : m ≡ 2 * w + 1 → Which w m
  beyond : 2 * w + 2 ≤ m → Which w m

pub which : (w m : ℕ) → Which w m
which w m = go (dec_lt m w) (dec_lt m (2 * w)) (ℕ_discrete m (2 * w)) (ℕ_discrete m (2 * w + 1))
  where
    go : Dec (m < w) → Dec (m < 2 * w) → Dec (m ≡ 2 * w) → Dec (m ≡ 2 * w + 1) → Which w m
    go (yes h) b c d = counts h
    go (no a) (yes h) c d = guides (m - w) (omega arith) (omega arith)
    go (no a) (no b) (yes h) d = window h
    go (no a) (no b) (no c) (yes h) = window_guides h
    go (no a) (no b) (no c) (no d) = beyond (omega arith)

-- ---- a row, block by block
module _ (p : Frame) (y i : ℕ) where
  pixel-first : (a b x m : ℕ) → (m ≡ b → ⊥) → pixel_d p a b x y m i ≡ (if eqb m a then at_level p (λ u v. 1) x y i else 0)
  unfolding pixel_d
  pixel-first a b x m n = rw (ne_eqb m b n) (add-zero _)

  pixel-second : (a b x m : ℕ) → (m ≡ a → ⊥) → pixel_d p a b x y m i ≡ (if eqb m b then at_level p (guide p) x y i else 0)
  unfolding pixel_d
  pixel-second a b x m n = rw (ne_eqb m a n) (zero-add _)

  pixel-none : (a b x m : ℕ) → (m ≡ a → ⊥) → (m ≡ b → ⊥) → pixel_d p a b x y m i ≡ 0
  pixel-none a b x m n k = pixel-first a b x m k ∙ rw (ne_eqb m a n) refl

  -- no block of the strip is m
  strip-none : (a b apart first n m : ℕ) → ((x : ℕ) → x < first + n → m ≡ a + x * apart → ⊥) → ((x : ℕ) → x < first + n → m ≡ b + x * apart → ⊥) →
      strip_d p y a b apart first n m i ≡ 0
  unfolding strip_d
  strip-none a b apart first n m c d =
      fold_same ◌+◌ 0 nat_sums _ (λ x. 0) first n (λ x u v. pixel-none (a + x * apart) (b + x * apart) x m (c x v) (d x v)) ∙ fold-none ◌+◌ 0 nat_sums
      first n

  -- the columns' strip: one pixel for each block
  own_block : (w x₀ x : ℕ) → eqb (w + x₀) (w + x * 1) ≡ eqb x₀ x
  own_block w x₀ x = go (ℕ_discrete x₀ x)
    where
      go : Dec (x₀ ≡ x) → eqb (w + x₀) (w + x * 1) ≡ eqb x₀ x
      go (yes e) = eq-eqb (w + x₀) (w + x * 1) (omega (arith, mul-one x)) ∙ sym (eq-eqb x₀ x e)
      go (no e) = ne_eqb (w + x₀) (w + x * 1) (λ d. e (omega (arith, mul-one x))) ∙ sym (ne_eqb x₀ x e)

  columns-count : (w x₀ : ℕ) → x₀ < w → strip_d p y 0 w 1 0 w x₀ i ≡ at_level p (λ u v. 1) x₀ y i
  unfolding strip_d
  columns-count w x₀ h =
      fold_same ◌+◌ 0 nat_sums _ (λ x. if eqb x₀ x then at_level p (λ u v. 1) x y i else 0) 0 w
      (λ x a b. pixel-first (0 + x * 1) (w + x * 1) x x₀ (λ e. omega arith) ∙ ap (λ (q : Bool). if q then at_level p (λ u v. 1) x y i else 0)
      (ap (λ (n : ℕ). eqb n (0 + x * 1)) (sym (zero-add x₀)) ∙ own_block 0 x₀ x))
      ∙ fold-pick ◌+◌ 0 nat_sums (λ x. at_level p (λ u v. 1) x y i) x₀ w h

  columns-guide : (w x₀ : ℕ) → x₀ < w → strip_d p y 0 w 1 0 w (w + x₀) i ≡ at_level p (guide p) x₀ y i
  unfolding strip_d
  columns-guide w x₀ h =
      fold_same ◌+◌ 0 nat_sums _ (λ x. if eqb x₀ x then at_level p (guide p) x y i else 0) 0 w
      (λ x a b. pixel-second (0 + x * 1) (w + x * 1) x (w + x₀) (λ e. omega (arith, mul-one x)) ∙ rw (own_block w x₀ x) refl)
      ∙ fold-pick ◌+◌ 0 nat_sums (λ x. at_level p (guide p) x y i) x₀ w h

  columns-none : (w m : ℕ) → 2 * w ≤ m → strip_d p y 0 w 1 0 w m i ≡ 0
  columns-none w m h = strip-none 0 w 1 0 w m (λ x u e. omega (arith, mul-one x)) (λ x u e. omega (arith, mul-one x))

  -- the window's strip: every pixel in the same two blocks
  window-none : (w first n m : ℕ) → (m ≡ 2 * w → ⊥) → (m ≡ 2 * w + 1 → ⊥) → strip_d p y (2 * w) (2 * w + 1) 0 first n m i ≡ 0
  window-none w first n m c d = strip-none (2 * w) (2 * w + 1) 0 first n m (λ x u e. c (omega arith)) (λ x u e. d (omega arith))

  window-count : (w first n : ℕ) → strip_d p y (2 * w) (2 * w + 1) 0 first n (2 * w) i ≡ sum (λ x. at_level p (λ u v. 1) x y i) first n
  unfolding strip_d
  window-count w first n =
      fold_same ◌+◌ 0 nat_sums _ _ first n
      (λ x u v. pixel-first (2 * w + x * 0) (2 * w + 1 + x * 0) x (2 * w) (λ d. omega arith) ∙ rw (eq-eqb (2 * w) (2 * w + x * 0) (omega arith)) refl)

  window-guide : (w first n : ℕ) → strip_d p y (2 * w) (2 * w + 1) 0 first n (2 * w + 1) i ≡ sum (λ x. at_level p (guide p) x y i) first n
  unfolding strip_d
  window-guide w first n =
      fold_same ◌+◌ 0 nat_sums _ _ first n
      (λ x u v. pixel-second (2 * w + x * 0) (2 * w + 1 + x * 0) x (2 * w + 1) (λ d. omega arith) ∙ rw
      (eq-eqb (2 * w + 1) (2 * w + 1 + x * 0) (omega arith)) refl)

  pub row_count : (s m : ℕ) → m < p.set.width → row_d p s y m i ≡ at_level p (λ u v. 1) m y i
  unfolding row_d
  row_count s m h = ap₂ ◌+◌ (columns-count p.set.width m h) (window-none p.set.width _ _ m (λ d. omega arith) (λ d. omega arith)) ∙ add-zero _

  pub row-guide : (s x : ℕ) → x < p.set.width → row_d p s y (p.set.width + x) i ≡ at_level p (guide p) x y i
  unfolding row_d
  row-guide s x h =
      ap₂ ◌+◌ (columns-guide p.set.width x h) (window-none p.set.width _ _ (p.set.width + x) (λ d. omega arith) (λ d. omega arith)) ∙
      add-zero _

  pub row-window : (s : ℕ) → row_d p s y (2 * p.set.width) i ≡ in_row ◌+◌ 0 p s (λ u v. if eqb (level p u v) i then 1 else 0) y
  unfolding row_d in_row
  row-window s = ap₂ ◌+◌ (columns-none p.set.width (2 * p.set.width) (le_refl _)) (window-count p.set.width _ _) ∙ zero-add _

  pub row-window-guide : (s : ℕ) → row_d p s y (2 * p.set.width + 1) i ≡ in_row ◌+◌ 0 p s (λ u v. if eqb (level p u v) i then guide p u v else 0) y
  unfolding row_d in_row
  row-window-guide s = ap₂ ◌+◌ (columns-none p.set.width (2 * p.set.width + 1) (omega arith)) (window-guide p.set.width _ _) ∙ zero-add _

  pub row-beyond : (s m : ℕ) → 2 * p.set.width + 2 ≤ m → row_d p s y m i ≡ 0
  unfolding row_d
  row-beyond s m h = ap₂ ◌+◌ (columns-none p.set.width m (omega arith)) (window-none p.set.width _ _ m (λ d. omega arith) (λ d. omega arith))

-- ---- the store, block by block
module _ (p : Frame) (s t i : ℕ) where
  pub content-count : (x : ℕ) → x < p.set.width → content_d p s t x i ≡ column_sum p t (λ u v. 1) x i
  unfolding content_d column_sum in_column
  content-count x h = fold_same ◌+◌ 0 nat_sums _ _ _ _ (λ y a b. row_count p y i s x h)

  pub content-guide : (x : ℕ) → x < p.set.width → content_d p s t (p.set.width + x) i ≡ column_sum p t (guide p) x i
  unfolding content_d column_sum in_column
  content-guide x h = fold_same ◌+◌ 0 nat_sums _ _ _ _ (λ y a b. row-guide p y i s x h)

  pub content-window : content_d p s t (2 * p.set.width) i ≡ level_sum p s t (λ u v. 1) i
  unfolding content_d level_sum over in_row fold_rect
  content-window =
      fold_same ◌+◌ 0 nat_sums _ _ _ _ (λ y a b. row-window p y i s)
      ∙ sym
      (fold_rect-turn ◌+◌ 0 nat_sums (λ u v. at_level p (λ a b. 1) u v i) (s - p.set.radius) (span p.set.radius s p.set.width)
      (t - p.set.radius) (span p.set.radius t p.set.height))

  pub content-window-guide : content_d p s t (2 * p.set.width + 1) i ≡ level_sum p s t (guide p) i
  unfolding content_d level_sum over in_row fold_rect
  content-window-guide =
      fold_same ◌+◌ 0 nat_sums _ _ _ _ (λ y a b. row-window-guide p y i s)
      ∙ sym
      (fold_rect-turn ◌+◌ 0 nat_sums (λ u v. at_level p (guide p) u v i) (s - p.set.radius) (span p.set.radius s p.set.width)
      (t - p.set.radius) (span p.set.radius t p.set.height))

  pub content-beyond : (m : ℕ) → 2 * p.set.width + 2 ≤ m → content_d p s t m i ≡ 0
  unfolding content_d
  content-beyond m h = fold_same ◌+◌ 0 nat_sums _ (λ y. 0) _ _ (λ y a b. row-beyond p y i s m h) ∙ fold-none ◌+◌ 0 nat_sums _ _

-- ---- the list
front : (n : ℕ) (f : ℕ → ℕ) (ys : List ℕ) (k : ℕ) → k < n → get_or (tabulate n f ++ ys) k 0 ≡ f k
front n f ys k h = get_or-append (tabulate n f) ys 0 k (rw (length-tabulate n f) h) ∙ get_d_tabulate n f k 0 h

back : (n : ℕ) (f : ℕ → ℕ) (ys : List ℕ) (k : ℕ) → get_or (tabulate n f ++ ys) (n + k) 0 ≡ get_or ys k 0
back n f ys k = ap (λ (m : ℕ). get_or (tabulate n f ++ ys) (m + k) 0) (sym (length-tabulate n f)) ∙ get_or-append-add (tabulate n f) ys k 0

module _ (p : Frame) (s t : ℕ) where
  pub length-columns : length (column_store p s t) ≡ blocks_size p
  unfolding column_store
  length-columns = simp (length-append, length-tabulate) (omega arith)

  columns-right : column_store p s t
      ≡ tabulate (p.set.width * p.set.levels) (λ k. column_sum p t (λ u v. 1) (k / p.set.levels) (k % p.set.levels))
      ++ (tabulate (p.set.width * p.set.levels) (λ k. column_sum p t (guide p) (k / p.set.levels) (k % p.set.levels))
      ++ (tabulate p.set.levels (level_sum p s t (λ u v. 1)) ++ tabulate p.set.levels (level_sum p s t (guide p))))
  unfolding column_store
  columns-right = simp append_assoc

  pub column-cell : (m i : ℕ) → m < 2 * p.set.width + 2 → i < p.set.levels →
      get_or (column_store p s t) (m * p.set.levels + i) 0 ≡ content_d p s t m i
  column-cell m i hm hi = ap (λ (q : List ℕ). get_or q (m * p.set.levels + i) 0) columns-right ∙ go (which p.set.width m)
    where
      f₁ : ℕ → ℕ
      f₁ k = column_sum p t (λ u v. 1) (k / p.set.levels) (k % p.set.levels)

      f₂ : ℕ → ℕ
      f₂ k = column_sum p t (guide p) (k / p.set.levels) (k % p.set.levels)

      rest₃ : List ℕ
      rest₃ = tabulate p.set.levels (level_sum p s t (guide p))

      rest₂ : List ℕ
      rest₂ = tabulate p.set.levels (level_sum p s t (λ u v. 1)) ++ rest₃

      rest₁ : List ℕ
      rest₁ = tabulate (p.set.width * p.set.levels) f₂ ++ rest₂

      digits₁ : (x : ℕ) → f₁ (x * p.set.levels + i) ≡ column_sum p t (λ u v. 1) x i
      digits₁ x = ap₂ (column_sum p t (λ u v. 1)) (digits_div x hi) (digits_mod x hi)

      digits₂ : (x : ℕ) → f₂ (x * p.set.levels + i) ≡ column_sum p t (guide p) x i
      digits₂ x = ap₂ (column_sum p t (guide p)) (digits_div x hi) (digits_mod x hi)

      at : (k m₁ : ℕ) → k ≡ m₁ →
          get_or (tabulate (p.set.width * p.set.levels) f₁ ++ rest₁) k 0 ≡ get_or (tabulate (p.set.width * p.set.levels) f₁ ++ rest₁) m₁ 0
      at k m₁ e = ap (λ (q : ℕ). get_or (tabulate (p.set.width * p.set.levels) f₁ ++ rest₁) q 0) e

      go : Which p.set.width m → get_or (tabulate (p.set.width * p.set.levels) f₁ ++ rest₁) (m * p.set.levels + i) 0 ≡ content_d p s t m i
      go (counts h) =
          front (p.set.width * p.set.levels) f₁ rest₁ (m * p.set.levels + i) (digits_lt h hi) ∙ digits₁ m ∙ sym (content-count p s t i m h)
      go (guides x h e) =
          let d : m * p.set.levels + i ≡ (p.set.width * p.set.levels) + (x * p.set.levels + i) =
          ap (λ (q : ℕ). q * p.set.levels + i) e ∙ ap (λ (q : ℕ). q + i) (add-mul p.set.width x p.set.levels) ∙ add_assoc
          (p.set.width * p.set.levels) (x * p.set.levels) i in
          at (m * p.set.levels + i) ((p.set.width * p.set.levels) + (x * p.set.levels + i)) d ∙ back (p.set.width * p.set.levels) f₁
          rest₁ (x * p.set.levels + i) ∙ front (p.set.width * p.set.levels) f₂ rest₂ (x * p.set.levels + i) (digits_lt h hi) ∙
          digits₂ x
          ∙ sym (content-guide p s t i x h) ∙ ap (λ (q : ℕ). content_d p s t q i) (sym e)
      go (window e) =
          let d : m * p.set.levels + i ≡ (p.set.width * p.set.levels) + ((p.set.width * p.set.levels) + i) =
          ap (λ (q : ℕ). q * p.set.levels + i) e ∙ ap (λ (q : ℕ). q + i) (mul_assoc 2 p.set.width p.set.levels) ∙ omega arith in
          at (m * p.set.levels + i) ((p.set.width * p.set.levels) + ((p.set.width * p.set.levels) + i)) d ∙ back
          (p.set.width * p.set.levels) f₁ rest₁ ((p.set.width * p.set.levels) + i) ∙ back (p.set.width * p.set.levels) f₂ rest₂ i ∙
          front p.set.levels (level_sum p s t (λ u v. 1)) rest₃ i hi
          ∙ sym (content-window p s t i) ∙ ap (λ (q : ℕ). content_d p s t q i) (sym e)
      go (window_guides e) =
          let d₁ : (2 * p.set.width + 1) * p.set.levels ≡ 2 * (p.set.width * p.set.levels) + p.set.levels =
          add-mul (2 * p.set.width) 1 p.set.levels ∙ ap₂ ◌+◌ (mul_assoc 2 p.set.width p.set.levels)
          (native.Mathlib.Nat.one-mul p.set.levels) in
          let d : m * p.set.levels + i ≡ (p.set.width * p.set.levels) + ((p.set.width * p.set.levels) + (p.set.levels + i)) =
          ap (λ (q : ℕ). q * p.set.levels + i) e ∙ ap (λ (q : ℕ). q + i) d₁ ∙ omega arith in
          at (m * p.set.levels + i) ((p.set.width * p.set.levels) + ((p.set.width * p.set.levels) + (p.set.levels + i))) d ∙ back
          (p.set.width * p.set.levels) f₁ rest₁ ((p.set.width * p.set.levels) + (p.set.levels + i)) ∙ back
          (p.set.width * p.set.levels) f₂ rest₂ (p.set.levels + i) ∙ back p.set.levels (level_sum p s t (λ u v. 1)) rest₃ i
          ∙ get_d_tabulate p.set.levels (level_sum p s t (guide p)) i 0 hi
          ∙ sym (content-window-guide p s t i) ∙ ap (λ (q : ℕ). content_d p s t q i) (sym e)
      go (beyond h) = absurd (omega arith)

-- ---- a store that begins with the columns of a window, and goes on as ys
module _ (p : Frame) (s t : ℕ) where
  pub holds-cell : {xs : List ℕ} (ys : List ℕ) → xs ≡ column_store p s t ++ drop (blocks_size p) ys → (m i : ℕ) → m < 2 * p.set.width + 2 →
      i < p.set.levels
      → get_or xs (m * p.set.levels + i) 0 ≡ content_d p s t m i
  holds-cell ys e m i hm hi =
      ap (λ (q : List ℕ). get_or q (m * p.set.levels + i) 0) e
      ∙ get_or-append (column_store p s t) (drop (blocks_size p) ys) 0 (m * p.set.levels + i)
      (rw (length-columns p s t) (in-store p.set.width hm hi))
      ∙ column-cell p s t m i hm hi

  pub holds-rest : {xs : List ℕ} (ys : List ℕ) → xs ≡ column_store p s t ++ drop (blocks_size p) ys → (j : ℕ) → blocks_size p ≤ j →
      get_or xs j 0 ≡ get_or ys j 0
  holds-rest ys e j h =
      let d : j ≡ length (column_store p s t) + (j - blocks_size p) = omega (arith, length-columns p s t) in
      let g : blocks_size p + (j - blocks_size p) ≡ j = omega arith in
      ap (λ (q : List ℕ). get_or q j 0) e ∙ ap (λ (k : ℕ). get_or (column_store p s t ++ drop (blocks_size p) ys) k 0) d
      ∙ get_or-append-add (column_store p s t) (drop (blocks_size p) ys) (j - blocks_size p) 0 ∙ get_or-drop (blocks_size p) ys (j - blocks_size p) 0
      ∙ ap (λ (k : ℕ). get_or ys k 0) g

  pub holds-long : (xs : List ℕ) → xs ≡ column_store p s t ++ drop (blocks_size p) xs → blocks_size p ≤ length xs
  holds-long xs e =
      let d : length xs ≡ blocks_size p + (length xs - blocks_size p) =
      ap length e ∙ length-append (column_store p s t) (drop (blocks_size p) xs) ∙ ap₂ ◌+◌ (length-columns p s t) (length-drop (blocks_size p) xs) in
      omega arith

-- the same numbers, with their own rest
pub holds-self : (p : Frame) (s t : ℕ) (xs ys : List ℕ) → ys ≡ column_store p s t ++ drop (blocks_size p) xs →
    ys ≡ column_store p s t ++ drop (blocks_size p) ys
holds-self p s t xs ys e =
    let d : drop (blocks_size p) ys ≡ drop (blocks_size p) xs =
    ap (λ (q : List ℕ). drop (blocks_size p) q) e ∙ drop_at (column_store p s t) (drop (blocks_size p) xs) (blocks_size p) (length-columns p s t) in
    e ∙ ap (λ (q : List ℕ). column_store p s t ++ q) (sym d)

pub make-holds : (p : Frame) (s t : ℕ) (xs ys : List ℕ) → length xs ≡ length ys → blocks_size p ≤ length ys → 0 < p.set.levels
    → ((m i : ℕ) → m < 2 * p.set.width + 2 → i < p.set.levels → get_or xs (m * p.set.levels + i) 0 ≡ content_d p s t m i)
    → ((j : ℕ) → blocks_size p ≤ j → get_or xs j 0 ≡ get_or ys j 0) → xs ≡ column_store p s t ++ drop (blocks_size p) ys
make-holds p s t xs ys e h low cells rest =
    ext_get_or 0 xs (column_store p s t ++ drop (blocks_size p) ys)
    (let d : length (column_store p s t ++ drop (blocks_size p) ys) ≡ blocks_size p + (length ys - blocks_size p) =
    length-append (column_store p s t) (drop (blocks_size p) ys) ∙ ap₂ ◌+◌ (length-columns p s t) (length-drop (blocks_size p) ys) in omega arith)
    (λ j k. go j (dec_lt j (blocks_size p)))
  where
    go : (j : ℕ) → Dec (j < blocks_size p) → get_or xs j 0 ≡ get_or (column_store p s t ++ drop (blocks_size p) ys) j 0
    go j (yes k) =
        let hm : j / p.set.levels < 2 * p.set.width + 2 =
        (div-lt_iff_lt-mul low).1 (subst (λ (n : ℕ). j < n) (sym (store-size p.set.width p.set.levels)) k) in
        let hi : j % p.set.levels < p.set.levels = mod-lt j low in
        let d : j / p.set.levels * p.set.levels + j % p.set.levels ≡ j = div-add-mod' j p.set.levels in
        ap (λ (q : ℕ). get_or xs q 0) (sym d) ∙ cells (j / p.set.levels) (j % p.set.levels) hm hi ∙ sym
        (holds-cell p s t ys refl (j / p.set.levels) (j % p.set.levels) hm hi) ∙ ap
        (λ (q : ℕ). get_or (column_store p s t ++ drop (blocks_size p) ys) q 0) d
    go j (no k) = rest j (omega arith) ∙ sym (holds-rest p s t ys refl j (omega arith))
