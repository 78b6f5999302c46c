-- The stores of a window, and a row of weights of its pixels.
-- Assumes nothing.
use Rattle.std.specs.Prelude.{◌≡◌, List, ◌++◌, ℕ, ◌<◌, ℤ, pos, get_or, drop}
use Rattle.spec.specs.declared.Plan.{Plan}
use Rattle.spec.specs.Frame.{Frame, frame_with}
use Rattle.spec.specs.Checks.{Pictured}
use Rattle.spec.specs.Weight.{own_weight, weight}
use Rattle.spec.specs.Joint.{joint_counts, occupancy_words}
use Rattle.joint.specs.Window.{cell_count, word_count}
use Rattle.joint_cells.specs.Scan.{RowFits}
use Rattle.joint_search.specs.declared.Sizes.{Sizes}

abbrev pub sizes_of : Plan → Sizes
sizes_of plan = record { levels = plan.levels; guides = plan.guides }

-- a window of an accepted file, and the stores that hold it
pub record Counted (b vs : List ℕ) (plan : Plan) (s t : ℕ) (cs ws : List ℕ) : Type 0 where
  pub pictured : Pictured b vs plan
  pub column : s < plan.width
  pub row : t < plan.height
  pub counts : cs ≡ joint_counts (frame_with b vs) s t ++ drop (cell_count (frame_with b vs)) cs
  pub words : ws ≡ occupancy_words (frame_with b vs) s t ++ drop (word_count (frame_with b vs)) ws

-- a row whose numbers are what m guides weigh
pub record RowGives (weigh : ℕ → ℤ) (m : ℕ) (row : List ℕ) : Type 0 where
  pub in-row : RowFits m row
  pub is : (f : ℕ) → f < m → weigh f ≡ pos (get_or row f 0)

-- in the window at (s, t), by the frame's own weights; and by those that it is counted with
abbrev pub RowOwn : Frame → ℕ → ℕ → List ℕ → Type 0
RowOwn p s t row = RowGives (own_weight p s t) p.set.guides row

abbrev pub RowWeighs : Frame → ℕ → ℕ → List ℕ → Type 0
RowWeighs p s t row = RowGives (weight p s t) p.set.guides row
