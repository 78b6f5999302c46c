-- The balance box: how large it may be, and its cut point moved by one level.
-- Assumes nothing.
use Rattle.std.specs.Prelude.{◌≡◌, List, ℕ, ◌≤◌, ◌<◌, length, get_or, ℤ, pos, nat_abs, ◌+ℤ◌, ◌*ℤ◌}
use Rattle.spec.specs.Base.{sum}
use Rattle.joint_pixel.specs.Store.{cell_at}

-- the sizes of its first n cells, added up
unfoldable pub box_size : List ℤ → ℕ → ℕ
box_size bx n = sum (λ f. nat_abs (get_or bx f (pos 0))) 0 n

-- the cells' sizes add up to no more than a window's pixels, so that sums with 16-bit weights stay in 32 bits
pub record BoxInBounds (bx : List ℤ) : Type 0 where
  pub long : length bx ≡ 256
  pub low : (f : ℕ) → nat_abs (get_or bx f (pos 0)) ≤ 961
  pub few : (n : ℕ) → n ≤ 256 → box_size bx n ≤ 961

-- by times the counts of level i's first n guides more
pub record CountsAdded (m i : ℕ) (by : ℤ) (cs : List ℕ) (n : ℕ) (bx bx' : List ℤ) : Type 0 where
  pub long : length bx' ≡ length bx
  pub cells : (f : ℕ) → f < n → get_or bx' f (pos 0) ≡ get_or bx f (pos 0) +ℤ by *ℤ pos (get_or cs (cell_at m i f) 0)
  pub rest : (f : ℕ) → n ≤ f → get_or bx' f (pos 0) ≡ get_or bx f (pos 0)
