-- The joint counts and their occupancy words as lists: where a cell, its word and its bit stand, what one pixel more or less does to the two lists,
-- and when they hold given counts.
-- Assumes nothing.
use Rattle.std.specs.Prelude.{◌≡◌, Bool, true, false, ◌&&◌, List, ℕ, ◌+◌, ◌-◌, ◌*◌, ◌/◌, ◌%◌, ◌≤◌, ◌<◌, min, length, get_or, set}
use Rattle.std.specs.Prelude.{eqb, ltb, if◌then◌else◌}
use Rattle.spec.specs.Base.{indicator}
use Rattle.pixels.specs.Additive.{changed}
use Rattle.joint_pixel.specs.Bit.{bit, with_bit, without_bit}

-- ---- places, of m guides

-- occupancy words of one level
abbrev pub words_per : ℕ → ℕ
words_per m = (m + 63) / 64

-- the cell of level i and guide f, and the word that has its bit
abbrev pub cell_at : ℕ → ℕ → ℕ → ℕ
cell_at m i f = i * m + f

abbrev pub word_at : ℕ → ℕ → ℕ → ℕ
word_at m i f = i * words_per m + f / 64

-- the numbers are small, and the cell and its word are inside the lists
pub record Place (m i f : ℕ) (xs ws : List ℕ) : Type 0 where
  pub guides : m ≤ 256
  pub level : i < 1024
  pub guide : f < m
  pub cell : cell_at m i f < length xs
  pub word : word_at m i f < length ws

-- ---- a pixel that enters the window (true) or leaves it (false)

-- the word, of whose bit b the cell held n: the bit is set; or cleared exactly where the cell falls to 0
unfoldable pub changed_word : Bool → ℕ → ℕ → ℕ → ℕ
changed_word true word b n = with_bit word b
changed_word false word b n = without_bit word b (1 - (n - 1))

unfoldable pub changed_counts : Bool → ℕ → ℕ → ℕ → List ℕ → List ℕ
changed_counts w m i f xs = set xs (cell_at m i f) (changed w (get_or xs (cell_at m i f) 0) 1)

unfoldable pub changed_words : Bool → ℕ → ℕ → ℕ → List ℕ → List ℕ → List ℕ
changed_words w m i f xs ws = set ws (word_at m i f) (changed_word w (get_or ws (word_at m i f) 0) (f % 64) (get_or xs (cell_at m i f) 0))

-- ---- what the lists hold

-- the count of level i and guide f in a list of m guides a level: none from guide m on
unfoldable pub count_in : ℕ → List ℕ → ℕ → ℕ → ℕ
count_in m xs i f = if ltb f m then get_or xs (cell_at m i f) 0 else 0

-- 1 where a pixel of level i and guide f is one of level i' and guide f', else 0
unfoldable pub hit : ℕ → ℕ → ℕ → ℕ → ℕ
hit i f i' f' = indicator (eqb i i' && eqb f f')

-- the lists hold cnt for l levels and m guides: each cell its number, each guide's bit 1 exactly where the number is not 0, and every other bit of
-- the levels' words 0 (cnt is 0 from guide m on)
pub record Rep (l m : ℕ) (cnt : ℕ → ℕ → ℕ) (xs ws : List ℕ) : Type 0 where
  pub outside : (i g : ℕ) → i < l → m ≤ g → cnt i g ≡ 0
  pub cells : (i f : ℕ) → i < l → f < m → get_or xs (cell_at m i f) 0 ≡ cnt i f
  pub marks : (i g : ℕ) → i < l → g < words_per m * 64 → bit (get_or ws (word_at m i g) 0) (g % 64) ≡ min 1 (cnt i g)
