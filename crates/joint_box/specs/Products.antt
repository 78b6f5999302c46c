-- The products of the balance box's cells with weights.
-- Assumes nothing.
use Rattle.std.specs.Prelude.{List, ℕ, ◌+◌, ◌≤◌, ◌<◌, length, get_or, ℤ, pos, ◌-ℤ◌, ◌*ℤ◌}
use Rattle.spec.specs.Base.{sumℤ}
use Rattle.spec.specs.Frame.{heaviest}
use Rattle.joint_cells.specs.Box.{BoxInBounds}

-- the products of the n cells from f on with a factor each
unfoldable pub box_part : List ℤ → (ℕ → ℤ) → ℕ → ℕ → ℤ
box_part bx factor f n = sumℤ (λ k. get_or bx k (pos 0) *ℤ factor k) f n

-- of the first n cells with a row of weights; and the cells alone
abbrev pub box_dot : List ℤ → List ℕ → ℕ → ℤ
box_dot bx row n = box_part bx (λ k. pos (get_or row k 0)) 0 n

abbrev pub box_sum : List ℤ → ℕ → ℤ
box_sum bx n = box_part bx (λ k. pos 1) 0 n

-- half of what 16 bits can hold; a weight less that half is a signed number of 16 bits, and pairs of those are multiplied in one instruction
abbrev pub half : ℕ
half = 32768

abbrev pub centred : ℕ → ℤ
centred n = pos n -ℤ pos half

abbrev pub centred_part : List ℤ → List ℕ → ℕ → ℕ → ℤ
centred_part bx row f n = box_part bx (λ k. centred (get_or row k 0)) f n

-- n cells from f on, and their weights
pub record PartFits (n f : ℕ) (bx : List ℤ) (row : List ℕ) : Type 0 where
  pub low : BoxInBounds bx
  pub inside : f + n ≤ 256
  pub long : f + n ≤ length row
  pub weights : (k : ℕ) → f ≤ k → k < f + n → get_or row k 0 ≤ heaviest
