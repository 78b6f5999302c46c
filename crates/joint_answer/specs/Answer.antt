-- What the window that the counts hold answers and adds, by a row of weights.
-- Assumes nothing.
use Rattle.std.specs.Prelude.{◌≡◌, Bool, List, ℕ, ◌+◌, replicate, ℤ, if◌then◌else◌}
use Rattle.spec.specs.Walk.{shifts_to}
use Rattle.joint_search.specs.declared.Sizes.{Sizes}
use Rattle.joint_search.specs.declared.find.SearchEnd.{SearchEnd}
use Rattle.joint_search.specs.Search.{weightless_in, median_in, box_in}

-- the cut point, the shifts and the box after it, with the cut point c and n shifts before it
pub record AnsweredBy (blocks : Bool) (sizes : Sizes) (cs row : List ℕ) (c n : ℕ) (r : SearchEnd) (bx : List ℤ) : Type 0 where
  pub level : r.level.0 ≡ median_in sizes cs row
  pub shifts : r.shifts ≡ n + shifts_to blocks r.level.0 c
  pub box : bx ≡ box_in sizes cs r.level.0

-- the row that it is counted with, its own weights being given: ones where none of them weighs anything (document 02)
unfoldable pub counted_row : Sizes → List ℕ → List ℕ → List ℕ
counted_row sizes cs row = if weightless_in sizes cs row then replicate 256 1 else row
