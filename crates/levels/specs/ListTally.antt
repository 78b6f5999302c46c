-- The count and the guide sum of a list's pixels below a level, and over a step.
-- Assumes nothing.
use Rattle.std.specs.Prelude.{◌≡◌, List, ℕ, ◌+◌, ◌*◌, ◌≤◌}
use Rattle.spec.specs.Frame.{Frame}
use Rattle.pixels.specs.declared.Pixel.{Pixel}
use Rattle.pixels.specs.Pixels.{pixel_fold_to, pixel_fold, PixelsBelow}
use Rattle.level_search.specs.declared.Tally.{Tally}
use Rattle.levels.specs.Tally.{BelowAt, one_below, guide_below}

-- of the first k pixels of a list
pub record ListTally (p : List Pixel) (n k : ℕ) (a : Tally) : Type 0 where
  pub count : a.count ≡ pixel_fold_to ◌+◌ 0 p (one_below n) k
  pub sum : a.sum ≡ pixel_fold_to ◌+◌ 0 p (guide_below n) k
  pub count_high : a.count ≤ k
  pub sum_high : a.sum ≤ 255 * k

-- before a step: nothing overflows, and what leaves is there; and after it
pub record Carriable (e l : List Pixel) (n : ℕ) (a : Tally) : Type 0 where
  pub count_high : a.count ≤ 961
  pub sum_high : a.sum ≤ 245055
  pub count_enough : pixel_fold ◌+◌ 0 l (one_below n) ≤ a.count + pixel_fold ◌+◌ 0 e (one_below n)
  pub sum_enough : pixel_fold ◌+◌ 0 l (guide_below n) ≤ a.sum + pixel_fold ◌+◌ 0 e (guide_below n)

pub record CarriedBy (e l : List Pixel) (n : ℕ) (a r : Tally) : Type 0 where
  pub count : r.count + pixel_fold ◌+◌ 0 l (one_below n) ≡ a.count + pixel_fold ◌+◌ 0 e (one_below n)
  pub sum : r.sum + pixel_fold ◌+◌ 0 l (guide_below n) ≡ a.sum + pixel_fold ◌+◌ 0 e (guide_below n)

-- a tally of the window that the lists e and l lead from: carried over them, it is that of the window at (s, t)
pub record Carries (p : Frame) (e l : List Pixel) (s t n : ℕ) (a : Tally) : Type 0 where
  pub entering : PixelsBelow 1024 256 e
  pub leaving : PixelsBelow 1024 256 l
  pub carriable : Carriable e l n a
  pub carried : (r : Tally) → CarriedBy e l n a r → BelowAt p s t n r
