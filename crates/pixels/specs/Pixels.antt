-- The live pixels of a line as a list. Sums over them.
-- Assumes nothing.
use Rattle.std.specs.Prelude.{◌≡◌, List, ℕ, ◌+◌, ◌≤◌, ◌<◌, length, get_or}
use lib.IntN.{pos, ◌+ℤ◌}
use Rattle.spec.specs.declared.Plan.{Plan}
use Rattle.spec.specs.Base.{fold}
use Rattle.window.specs.declared.line.Line.{Line}
use Rattle.window.specs.Line.{column_line, line_fold}
use Rattle.pixels.specs.declared.Pixel.{Pixel}

-- what is past a list's end
abbrev pub no_pixel : Pixel
no_pixel = record { value = 0; guide = record { 0 = 0 } }

-- how many pixels a list has; the level and the guide of pixel k
abbrev pub count_of : List Pixel → ℕ
count_of p = length p

abbrev pub level_in : List Pixel → ℕ → ℕ
level_in p k = (get_or p k no_pixel).value

abbrev pub guide_in : List Pixel → ℕ → ℕ
guide_in p k = (get_or p k no_pixel).guide.0

-- the sum of h over a list's first n pixels; over all of them
module _ {A : Type 0} (◌⊕◌ : A → A → A) (e : A) where
  unfoldable pub pixel_fold_to : List Pixel → (ℕ → ℕ → A) → ℕ → A
  pixel_fold_to p h n = fold ◌⊕◌ e (λ k. h (level_in p k) (guide_in p k)) 0 n

  abbrev pub pixel_fold : List Pixel → (ℕ → ℕ → A) → A
  pixel_fold p h = pixel_fold_to p h (count_of p)

  -- the sum of h over n columns from column x of the windows of row t
  abbrev pub columns_fold : (file plane : List ℕ) → Plan → ℕ → ℕ → (ℕ → ℕ → A) → ℕ → A
  columns_fold b vs z x t h n = fold ◌⊕◌ e (λ a. line_fold ◌⊕◌ e b vs (column_line z a t) h) x n

-- few pixels, of l levels and m guides
pub record PixelsBelow (l m : ℕ) (p : List Pixel) : Type 0 where
  pub few : count_of p ≤ 31
  pub level : (k : ℕ) → k < count_of p → level_in p k < l
  pub guide : (k : ℕ) → k < count_of p → guide_in p k < m

-- the list has the line's live pixels, in a file with its own values or those of a plane: every sum over it is that over the line. Nothing else is
-- said of their order or number.
pub record LinePixels (b vs : List ℕ) (plan : Plan) (line : Line) (p : List Pixel) : Type 0 where
  pub below : PixelsBelow plan.levels plan.guides p
  pub sum : (h : ℕ → ℕ → ℕ) → pixel_fold ◌+◌ 0 p h ≡ line_fold ◌+◌ 0 b vs line h
  pub sumℤ : (h : ℕ → ℕ → lib.IntN.ℤ) → pixel_fold ◌+ℤ◌ (pos 0) p h ≡ line_fold ◌+ℤ◌ (pos 0) b vs line h
