-- What the stores and the box hold for a window.
-- Assumes nothing.
use Rattle.std.specs.Prelude.{◌≡◌, List, ◌++◌, ℕ, ◌+◌, ◌*◌, ◌≤◌, ◌<◌, length, get_or, drop, ℤ, pos, nat_abs, ◌+ℤ◌}
use Rattle.spec.specs.declared.Plan.{Plan}
use Rattle.spec.specs.Frame.{Frame, frame_with}
use Rattle.spec.specs.Checks.{Pictured}
use Rattle.spec.specs.Joint.{joint_counts, words_per_level, occupancy_words, balance_box_at}
use Rattle.pixels.specs.Pixels.{columns_fold}
use Rattle.joint_pixel.specs.Store.{cell_at, words_per, hit, Rep}
use Rattle.joint_pixel.specs.Side.{side_of}
use Rattle.joint.specs.List.{box_at, RestKept}

-- how many counts, and how many words
abbrev pub cell_count : Frame → ℕ
cell_count p = p.set.levels * p.set.guides

abbrev pub word_count : Frame → ℕ
word_count p = p.set.levels * words_per_level p.set

-- stores that held xs and ws now hold the window at (s, t), the rest of them as it was; and the box is the window's at the cut point c
pub record JointAt (p : Frame) (s t c : ℕ) (xs ws xs' ws' : List ℕ) (bx' : List ℤ) : Type 0 where
  pub counts : xs' ≡ joint_counts p s t ++ drop (cell_count p) xs
  pub words : ws' ≡ occupancy_words p s t ++ drop (word_count p) ws
  pub box : bx' ≡ balance_box_at p s t c

-- a window of an accepted file, and the stores and the box that hold it
pub record Held (b vs : List ℕ) (plan : Plan) (s t c : ℕ) (xs ws : List ℕ) (bx : List ℤ) : Type 0 where
  pub pictured : Pictured b vs plan
  pub column : s < plan.width
  pub row : t < plan.height
  pub joint : JointAt (frame_with b vs) s t c xs ws xs ws bx

-- a window to be built, and stores that are long enough
pub record Fresh (b vs : List ℕ) (plan : Plan) (s t : ℕ) (xs ws : List ℕ) : Type 0 where
  pub pictured : Pictured b vs plan
  pub column : s < plan.width
  pub row : t < plan.height
  pub cells : cell_count (frame_with b vs) ≤ length xs
  pub words : word_count (frame_with b vs) ≤ length ws

-- n columns from column x of the windows of row t
pub record Columns (plan : Plan) (x n t : ℕ) : Type 0 where
  pub wide : x + n ≤ plan.width
  pub few : n ≤ 31
  pub row : t < plan.height

-- the first k of those columns are in the stores, which held xs and ws, and in the box
pub record Filled (b vs : List ℕ) (plan : Plan) (x t c k : ℕ) (xs ws xs' ws' : List ℕ) (bx' : List ℤ) : Type 0 where
  pub cells : plan.levels * plan.guides ≤ length xs
  pub words : plan.levels * words_per plan.guides ≤ length ws
  pub kept : RestKept plan.levels plan.guides xs ws xs' ws'
  pub held : Rep plan.levels plan.guides (λ i f. columns_fold ◌+◌ 0 b vs plan x t (λ v g. hit v g i f) k) xs' ws'
  pub low : (i f : ℕ) → i < plan.levels → f < plan.guides → get_or xs' (cell_at plan.guides i f) 0 ≤ 31 * k
  pub box_long : length bx' ≡ 256
  pub box_low : (f : ℕ) → nat_abs (box_at bx' f) ≤ 31 * k
  pub box : (f : ℕ) → box_at bx' f ≡ columns_fold ◌+ℤ◌ (pos 0) b vs plan x t (side_of c f) k
