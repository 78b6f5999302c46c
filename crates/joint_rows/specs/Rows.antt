-- The rows of weights: the built-in ones as a mirror, a file's own row.
-- Assumes nothing.
use Rattle.std.specs.Prelude.{◌≡◌, List, ℕ, ◌≤◌, ◌<◌, length, get_or}
use Rattle.spec.specs.declared.Plan.{Plan}
use Rattle.spec.specs.Frame.{Frame, table, heaviest, built_in}

-- the built-in weights from 255 guides below the centre's to 255 above
pub record Mirror (row : List ℕ) : Type 0 where
  pub long : 511 ≤ length row
  pub is : (k : ℕ) → k < 511 → get_or row k 0 ≡ built_in 255 k

-- what a call makes once: the built-in weights, where the file has no table
pub record WeightRows (plan : Plan) (row : List ℕ) : Type 0 where
  pub mirror : plan.weights ≡ 0 → Mirror row

-- the table's row of a guide, in 256 numbers, of which none is above the largest weight
pub record TableRow (p : Frame) (m f : ℕ) (row : List ℕ) : Type 0 where
  pub long : length row ≡ 256
  pub is : (g : ℕ) → g < m → get_or row g 0 ≡ table p f g
  pub low : (g : ℕ) → g < m → get_or row g 0 ≤ heaviest
