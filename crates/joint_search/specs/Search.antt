-- What a search reads, counts and words of so many levels and guides and a row of weights; what these say of each level; what it finds. No frame is
-- named here: proofs/WindowLaws.antt says that the stores of a window give the frame's own weights, balances and box.
-- Assumes nothing.
use Rattle.std.specs.Prelude.{◌≡◌, Bool, List, ℕ, ◌+◌, ◌*◌, ◌≤◌, ◌<◌, ℤ, pos, ◌≤ℤ◌, ◌<ℤ◌}
use Rattle.spec.specs.Base.{sum, tabulate}
use Rattle.joint_pixel.specs.Store.{count_in, words_per}
use Rattle.joint_cells.specs.Scan.{Marked, cell_sum, cell_dot}
use Rattle.joint_cells.specs.Vacant.{Clear}
use Rattle.joint_search.specs.declared.Sizes.{Sizes}
use Rattle.joint_search.specs.Levels.{balance_of, total_of, weightless_of, median_of}

-- the weight of level i, of m guides: of each pixel its guide's in the row
abbrev pub level_weight_in : ℕ → List ℕ → List ℕ → ℕ → ℤ
level_weight_in m cs row i = pos (cell_dot m i cs row m)

-- ---- over all levels
abbrev pub total_in : Sizes → List ℕ → List ℕ → ℤ
total_in sizes cs row = total_of (level_weight_in sizes.guides cs row) sizes.levels

abbrev pub balance_in : Sizes → List ℕ → List ℕ → ℕ → ℤ
balance_in sizes cs row c = balance_of (level_weight_in sizes.guides cs row) sizes.levels c

abbrev pub weightless_in : Sizes → List ℕ → List ℕ → Bool
weightless_in sizes cs row = weightless_of (level_weight_in sizes.guides cs row) sizes.levels

abbrev pub median_in : Sizes → List ℕ → List ℕ → ℕ
median_in sizes cs row = median_of (level_weight_in sizes.guides cs row) sizes.levels

-- the balance box at the cut point c: of each guide, its pixels up to c less those above
unfoldable pub box_in : Sizes → List ℕ → ℕ → List ℤ
box_in sizes cs c = tabulate 256 (λ f. balance_of (λ i. pos (count_in sizes.guides cs i f)) sizes.levels c)

-- ---- what a search asks

-- the pixels of all levels
unfoldable pub pixels_in : Sizes → List ℕ → ℕ
pixels_in sizes cs = sum (λ i. cell_sum sizes.guides i cs sizes.guides) 0 sizes.levels

-- every level's bits are those of its counts, and there are no more pixels than a window has
pub record Searchable (sizes : Sizes) (cs ws : List ℕ) : Type 0 where
  pub guides : sizes.guides ≤ 256
  pub levels : sizes.levels ≤ 1024
  pub marked : (i : ℕ) → i < sizes.levels → Marked sizes.guides i cs ws
  pub few : pixels_in sizes cs ≤ 961

-- the n levels from i on are there, and their words are 0
pub record NoPixel (sizes : Sizes) (i n : ℕ) (ws : List ℕ) : Type 0 where
  pub whole : i + n ≤ sizes.levels
  pub clear : Clear ws (i * words_per sizes.guides) (n * words_per sizes.guides)

-- ---- what it finds, by the balance B c of each of l levels

-- r is the first level from c on whose balance is not negative
pub record Climbed (B : ℕ → ℤ) (l c r : ℕ) : Type 0 where
  pub level : r < l
  pub from : c ≤ r
  pub here : pos 0 ≤ℤ B r
  pub before : (j : ℕ) → c ≤ j → j < r → B j <ℤ pos 0

-- r is the first level of those up to c whose balances are all not negative
pub record Descended (B : ℕ → ℤ) (c r : ℕ) : Type 0 where
  pub upto : r ≤ c
  pub here : pos 0 ≤ℤ B r
  pub below : (j : ℕ) → r ≡ j + 1 → B j <ℤ pos 0
