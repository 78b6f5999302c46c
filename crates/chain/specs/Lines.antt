-- A line's pixels, as a list, and what they add to each level's count and guide sum.
-- Assumes nothing.
use Rattle.std.specs.Prelude.{Bool, true, false, not, List, ℕ, ◌+◌, ◌*◌, ◌≤◌, ◌<◌, eqb, if◌then◌else◌}
use Rattle.spec.specs.declared.Plan.{Plan}
use Rattle.pixels.specs.declared.Pixel.{Pixel}
use Rattle.pixels.specs.Pixels.{count_of, pixel_fold, PixelsBelow}
use Rattle.chain_nodes.specs.declared.FreeList.{FreeList}
use Rattle.chain.specs.Keys.{NoneLeft}
use Rattle.chain_list.specs.Chain.{sum_below, Beyond, Size, ListOf}

-- a node for each pixel of the largest window
abbrev pub nodes_of : Plan → ℕ
nodes_of plan = (2 * plan.radius + 1) * (2 * plan.radius + 1)

unfoldable pub list_size : Plan → Size
list_size plan = record { cap = nodes_of plan; levels = plan.levels }

-- what a pixel of level i' and guide f' adds to level i's count, and to its guide sum
abbrev pub counted : ℕ → ℕ → ℕ → ℕ
counted i i' f' = if eqb i' i then 1 else 0

abbrev pub guided : ℕ → ℕ → ℕ → ℕ
guided i i' f' = if eqb i' i then f' else 0

-- what the list p of a line's pixels does
abbrev pub line_count : List Pixel → ℕ → ℕ
line_count p i = pixel_fold ◌+◌ 0 p (counted i)

abbrev pub line_guides : List Pixel → ℕ → ℕ
line_guides p i = pixel_fold ◌+◌ 0 p (guided i)

-- cnt and sm with these pixels, or without them
abbrev pub with_counts : Bool → List Pixel → (ℕ → ℕ) → ℕ → ℕ
with_counts present p cnt = λ i. if present then cnt i + line_count p i else cnt i

abbrev pub with_guides : Bool → List Pixel → (ℕ → ℕ) → ℕ → ℕ
with_guides present p sm = λ i. if present then sm i + line_guides p i else sm i

-- ---- the pixels p come into the linked list (adding), or go out of it; cnt and sm are the counts and guide sums without them

-- they can come in
pub record InsertLineReady (z : Size) (p : List Pixel) (cnt sm : ℕ → ℕ) : Type 0 where
  pub space : sum_below cnt z.levels + count_of p ≤ z.cap
  pub fits : (i : ℕ) → sm i ≤ 245055

abbrev pub LineReady : Bool → Size → List Pixel → (ℕ → ℕ) → (ℕ → ℕ) → Type 0
LineReady true z p cnt sm = InsertLineReady z p cnt sm
LineReady false z p cnt sm = NoneLeft cnt sm

pub record MergeableLine (adding : Bool) (p : List Pixel) (free : FreeList) (m : List ℕ) : Type 0 where
  pub size : Size
  pub small : size.cap < 4294967296
  pub below : PixelsBelow size.levels 256 p
  pub cnt : ℕ → ℕ
  pub sm : ℕ → ℕ
  pub chain : ListOf size (with_counts (not adding) p cnt) (with_guides (not adding) p sm) free m
  pub ready : LineReady adding size p cnt sm

pub record MergedLine (adding : Bool) (p : List Pixel) (free : FreeList) (m : List ℕ) (free' : FreeList) (m' : List ℕ) : Type 0 where
  pub beyond : (a : MergeableLine adding p free m) → Beyond a.size.cap m m'
  pub chain : (a : MergeableLine adding p free m) → ListOf a.size (with_counts adding p a.cnt) (with_guides adding p a.sm) free' m'
