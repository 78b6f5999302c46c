-- Blocks of 16 levels without a pixel, as the occupancy words show them, of l levels and m guides.
-- Assumes nothing.
use Rattle.std.specs.Prelude.{◌≡◌, List, ℕ, ◌+◌, ◌*◌, ◌≤◌, ◌<◌, length, get_or}
use Rattle.joint_pixel.specs.Store.{words_per}

-- n words from the first are 0
pub record Clear (ws : List ℕ) (first n : ℕ) : Type 0 where
  pub zeros : (j : ℕ) → j < n → get_or ws (first + j) 0 ≡ 0

-- the words of all levels are there
pub record WordsFit (l m : ℕ) (ws : List ℕ) : Type 0 where
  pub guides : m ≤ 256
  pub levels : l ≤ 1024
  pub words : l * words_per m ≤ length ws

-- the levels from i to i + 15 are there, and their words are 0
pub record Vacant (l m i : ℕ) (ws : List ℕ) : Type 0 where
  pub whole : i + 16 ≤ l
  pub clear : Clear ws (i * words_per m) (16 * words_per m)
