-- The list of a window: what its store holds, at a start and after a step; and what a step's two lists of pixels do to it.
-- Assumes nothing.
use Rattle.std.specs.Prelude.{◌≡◌, true, List, ℕ, ◌<◌, length, drop}
use Rattle.spec.specs.declared.Plan.{Plan}
use Rattle.spec.specs.declared.Way.TheVariants.{Chain as ChainWay}
use Rattle.spec.specs.Frame.{guide, frame_of}
use Rattle.spec.specs.Window.{level_sum}
use Rattle.spec.specs.Chain.{ChainStore}
use Rattle.spec.specs.Calls.{room_of}
use Rattle.pixels.specs.declared.Pixel.{Pixel}
use Rattle.pixels.specs.Pixels.{PixelsBelow}
use Rattle.chain_nodes.specs.declared.FreeList.{FreeList}
use Rattle.chain_list.specs.Chain.{Beyond, Size, ListOf}
use Rattle.chain.specs.Keys.{NoneLeft}
use Rattle.chain.specs.Lines.{list_size, with_counts, with_guides, InsertLineReady}

-- the pixels of level i in the window at (s, t), and the sum of their guides
abbrev pub level_counts : List ℕ → ℕ → ℕ → ℕ → ℕ
level_counts b s t = level_sum (frame_of b) s t (λ x y. 1)

abbrev pub level_guides : List ℕ → ℕ → ℕ → ℕ → ℕ
level_guides b s t = level_sum (frame_of b) s t (guide (frame_of b))

-- the nodes of m hold the window's levels, and the others are in the free list
abbrev pub Listed : List ℕ → Plan → ℕ → ℕ → FreeList → List ℕ → Type 0
Listed b plan s t free m = ListOf (list_size plan) (level_counts b s t) (level_guides b s t) free m

-- how many numbers of a store are the way's
abbrev pub store_size : List ℕ → ℕ
store_size b = (room_of ChainWay (frame_of b).set).numbers

-- the store m has become m', which holds the window at (s, t)
pub record Stored (b : List ℕ) (plan : Plan) (s t : ℕ) (m : List ℕ) (free : FreeList) (m' : List ℕ) : Type 0 where
  pub store : ChainStore (frame_of b) s t m'
  pub listed : Listed b plan s t free m'
  pub long : length m' ≡ length m
  pub rest : drop (store_size b) m' ≡ drop (store_size b) m

-- the pixels l can leave, and then the pixels e can enter; cnt and sm are the counts and guide sums of what stays
pub record Slides (e l : List Pixel) (free : FreeList) (m : List ℕ) : Type 0 where
  pub size : Size
  pub small : size.cap < 4294967296
  pub entering : PixelsBelow size.levels 256 e
  pub leaving : PixelsBelow size.levels 256 l
  pub cnt : ℕ → ℕ
  pub sm : ℕ → ℕ
  pub chain : ListOf size (with_counts true l cnt) (with_guides true l sm) free m
  pub none_left : NoneLeft cnt sm
  pub ready : InsertLineReady size e cnt sm

-- they have
pub record Slid (e l : List Pixel) (free : FreeList) (m : List ℕ) (free' : FreeList) (m' : List ℕ) : Type 0 where
  pub beyond : (a : Slides e l free m) → Beyond a.size.cap m m'
  pub chain : (a : Slides e l free m) → ListOf a.size (with_counts true e a.cnt) (with_guides true e a.sm) free' m'
