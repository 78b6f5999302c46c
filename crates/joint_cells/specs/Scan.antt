-- The occupied guides of a level, and sums over them.
-- Assumes nothing.
use Rattle.std.specs.Prelude.{◌≡◌, List, ◌∷◌, ltb, ℕ, ◌+◌, ◌-◌, ◌*◌, ◌/◌, ◌%◌, ◌^◌, ◌≤◌, ◌<◌, min, eqb, length, get_or, if◌then◌else◌, slice_range, Option, MatchOption}
use Rattle.std.specs.Int.Count.{count_trailing_zeros}
use Rattle.spec.specs.Base.{sum}
use Rattle.spec.specs.Frame.{heaviest}
use Rattle.spec.specs.declared.Guide.{Guide}
use Rattle.joint_pixel.specs.Bit.{bit}
use Rattle.joint_cells.specs.declared.scan.Occupied.{Occupied}
use Rattle.joint_pixel.specs.Store.{cell_at, word_at, words_per, count_in}

-- level i's words, of m guides
abbrev pub words_of : ℕ → ℕ → List ℕ → List ℕ
words_of m i ws = slice_range ws (i * words_per m) (i * words_per m + words_per m)

-- the bit of guide g in words, the first of which is of the guides from 0 on
unfoldable pub bit_of : List ℕ → ℕ → ℕ
bit_of ws g = bit (get_or ws (g / 64) 0) (g % 64)

-- 1 where guide g is still to come, else 0
unfoldable pub left : Occupied → ℕ → ℕ
left s g = if ltb g s.base then 0 else bit_of (s.rest ∷ s.words.now) (g - s.base)

-- the lowest guide that is left in the word at hand, or the first after that word
unfoldable pub place_of : Occupied → ℕ
place_of s = s.base + (if eqb s.rest 0 then 64 else count_trailing_zeros 64 s.rest)

-- at most 256 guides
pub record Scans (s : Occupied) : Type 0 where
  pub few : s.base + (length s.words.now + 1) * 64 ≤ 256
  pub fits : s.rest < 2 ^ 64

-- guide g is the next one of s, which goes on as t
pub record IsNext (s : Occupied) (g : ℕ) (t : Occupied) : Type 0 where
  pub here : left s g ≡ 1
  pub before : (h : ℕ) → h < g → left s h ≡ 0
  pub upto : (h : ℕ) → h ≤ g → left t h ≡ 0
  pub others : (h : ℕ) → g < h → left t h ≡ left s h
  pub inside : g < 256
  pub from : place_of s ≤ g
  pub after : g < place_of t

-- the next one; or none is left
abbrev pub GivesNext : Occupied → Option Guide → Occupied → Type 0
GivesNext s r t = MatchOption r ((g : ℕ) → left s g ≡ 0) (λ g. IsNext s g.0 t)

-- over level i's first n guides, of m: its pixels; and their weights by a row, added up
unfoldable pub cell_sum : ℕ → ℕ → List ℕ → ℕ → ℕ
cell_sum m i cs n = sum (λ f. get_or cs (cell_at m i f) 0) 0 n

unfoldable pub cell_dot : ℕ → ℕ → List ℕ → List ℕ → ℕ → ℕ
cell_dot m i cs row n = sum (λ f. get_or cs (cell_at m i f) 0 * get_or row f 0) 0 n

-- level i's words are there, of m guides
pub record Held (m i : ℕ) (ws : List ℕ) : Type 0 where
  pub guides : m ≤ 256
  pub level : i < 1024
  pub words : i * words_per m + words_per m ≤ length ws

-- a level of the stores: its bits are those of its counts, and it has no more pixels than a window
pub record Marked (m i : ℕ) (cs ws : List ℕ) : Type 0 where
  pub guides : m ≤ 256
  pub level : i < 1024
  pub cells : i * m + m ≤ length cs
  pub words : i * words_per m + words_per m ≤ length ws
  pub marks : (g : ℕ) → g < words_per m * 64 → bit (get_or ws (word_at m i g) 0) (g % 64) ≡ min 1 (count_in m cs i g)
  pub few : cell_sum m i cs m ≤ 961

-- a row of weights for m guides
pub record RowFits (m : ℕ) (row : List ℕ) : Type 0 where
  pub inside : m ≤ length row
  pub low : (f : ℕ) → f < m → get_or row f 0 ≤ heaviest
