-- Document 01's n, S and Q of a list's pixels, and over a step.
-- Assumes nothing.
use Rattle.std.specs.Prelude.{◌≡◌, List, ℕ, ◌+◌, ◌*◌, ◌≤◌}
use Rattle.window.specs.declared.sums.Sums.{Sums}
use Rattle.window.specs.Sums.{one, itself, squared}
use Rattle.spec.specs.declared.Plan.{Plan}
use Rattle.pixels.specs.declared.Pixel.{Pixel}
use Rattle.pixels.specs.Pixels.{pixel_fold_to, pixel_fold, columns_fold}

-- of the first k pixels of a list
pub record ListSums (p : List Pixel) (k : ℕ) (a : Sums) : Type 0 where
  pub count : a.count ≡ pixel_fold_to ◌+◌ 0 p one k
  pub sum : a.sum ≡ pixel_fold_to ◌+◌ 0 p itself k
  pub squares : a.squares ≡ pixel_fold_to ◌+◌ 0 p squared k
  pub count_high : a.count ≤ k
  pub sum_high : a.sum ≤ 255 * k
  pub squares_high : a.squares ≤ 65025 * k

-- of the first k columns from column x of the windows of row t
pub record ColumnSums (b vs : List ℕ) (plan : Plan) (x t k : ℕ) (a : Sums) : Type 0 where
  pub count : a.count ≡ columns_fold ◌+◌ 0 b vs plan x t one k
  pub sum : a.sum ≡ columns_fold ◌+◌ 0 b vs plan x t itself k
  pub squares : a.squares ≡ columns_fold ◌+◌ 0 b vs plan x t squared k
  pub count_high : a.count ≤ 31 * k
  pub sum_high : a.sum ≤ 7905 * k
  pub squares_high : a.squares ≤ 2015775 * k

-- before a step: nothing overflows, and what leaves is there
pub record MovableByLists (e l : List Pixel) (a : Sums) : Type 0 where
  pub count_high : a.count ≤ 961
  pub sum_high : a.sum ≤ 245055
  pub squares_high : a.squares ≤ 62489025
  pub count_enough : pixel_fold ◌+◌ 0 l one ≤ a.count + pixel_fold ◌+◌ 0 e one
  pub sum_enough : pixel_fold ◌+◌ 0 l itself ≤ a.sum + pixel_fold ◌+◌ 0 e itself
  pub squares_enough : pixel_fold ◌+◌ 0 l squared ≤ a.squares + pixel_fold ◌+◌ 0 e squared

-- after it
pub record MovedByLists (e l : List Pixel) (a r : Sums) : Type 0 where
  pub count : r.count + pixel_fold ◌+◌ 0 l one ≡ a.count + pixel_fold ◌+◌ 0 e one
  pub sum : r.sum + pixel_fold ◌+◌ 0 l itself ≡ a.sum + pixel_fold ◌+◌ 0 e itself
  pub squares : r.squares + pixel_fold ◌+◌ 0 l squared ≡ a.squares + pixel_fold ◌+◌ 0 e squared
