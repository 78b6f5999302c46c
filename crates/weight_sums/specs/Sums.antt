-- A window's weight sums over blocks of so many levels, pixel by pixel; a block of one level is that level.
-- Assumes nothing.
use Rattle.std.specs.Prelude.{◌≡◌, List, ℕ, ◌/◌, ◌≤◌, ◌<◌, eqb, length, get_or, ℤ, pos, nat_abs, ◌+ℤ◌, if◌then◌else◌}
use Rattle.spec.specs.Frame.{Frame, level, guide}
use Rattle.spec.specs.Window.{Σℤ}
use Rattle.spec.specs.Weight.{weightless, weight}
use Rattle.pixels.specs.declared.Pixel.{Pixel}
use Rattle.pixels.specs.Pixels.{count_of, level_in, pixel_fold_to}
use Rattle.balance.specs.declared.formula.Formula.{Formula}
use Rattle.balance.specs.Formula.{weight_by, Weighs}
use Rattle.weight_sums.specs.declared.Counting.{Counting}

-- the window at (s, t) is counted by a row and a formula
pub record CountedBy (p : Frame) (s t : ℕ) (row : List ℕ) (c : Counting) : Type 0 where
  pub weighs : Weighs p s t row c.formula
  pub hollow : c.hollow ≡ weightless p s t
  pub long : length row ≡ 256

-- the block that a level is in
unfoldable pub block_of : ℕ → ℕ → ℕ
block_of width i = i / width

-- what the window's pixels in block b weigh
unfoldable pub weight_in : ℕ → Frame → ℕ → ℕ → ℕ → ℤ
weight_in width p s t b = Σℤ p s t (λ x y. if eqb (block_of width (level p x y)) b then weight p s t (guide p x y) else pos 0)

-- what a pixel of level i and guide g adds to block b, by a row of weights
unfoldable pub block_share : ℕ → List ℕ → Formula → ℕ → ℕ → ℕ → ℤ
block_share width row formula b i g = if eqb (block_of width i) b then weight_by row formula g else pos 0

-- the blocks of a list's pixels are among the sums xs, and there is room for the list in each
pub record LineBlocks (width : ℕ) (p : List Pixel) (xs : List ℤ) : Type 0 where
  pub inside : (k : ℕ) → k < count_of p → block_of width (level_in p k) < length xs
  pub low : (k : ℕ) → k < count_of p → nat_abs (get_or xs (block_of width (level_in p k)) (pos 0)) ≤ 167544948939750

-- the list's first k pixels have been added
pub record BlocksAdded (width : ℕ) (p : List Pixel) (row : List ℕ) (formula : Formula) (k : ℕ) (xs ys : List ℤ) : Type 0 where
  pub long : length ys ≡ length xs
  pub blocks : (b : ℕ) → get_or ys b (pos 0) ≡ get_or xs b (pos 0) +ℤ pixel_fold_to ◌+ℤ◌ (pos 0) p (block_share width row formula b) k

-- zeros
pub record Zeros (xs : List ℤ) : Type 0 where
  pub zero : (b : ℕ) → get_or xs b (pos 0) ≡ pos 0

-- each of so many levels has its block among the sums
pub record BlocksFit (width levels : ℕ) (xs : List ℤ) : Type 0 where
  pub inside : (i : ℕ) → i < levels → block_of width i < length xs

-- all pixels of the window at (s, t) have been added
pub record Gathered (width : ℕ) (p : Frame) (s t : ℕ) (xs ys : List ℤ) : Type 0 where
  pub long : length ys ≡ length xs
  pub blocks : (b : ℕ) → get_or ys b (pos 0) ≡ weight_in width p s t b
