-- Numbers made one after the other in a list, and those of a file as their bytes stand.
-- Assumes nothing.
use Rattle.std.specs.Prelude.{◌≡◌, List, ℕ, ◌+◌, ◌*◌, ◌/◌, ◌%◌, ◌≤◌, ◌<◌, length, get_or}

-- a list in which n numbers from a place on have been made by a rule; those before them are as they were
pub record Made (rule : ℕ → ℕ) (from n : ℕ) (old new : List ℕ) : Type 0 where
  pub long : length new ≡ length old
  pub is : (g : ℕ) → from ≤ g → g < from + n → get_or new g 0 ≡ rule g
  pub before : (g : ℕ) → g < from → get_or new g 0 ≡ get_or old g 0

-- number q of a plane with its two bytes taken low byte first; and a number with its bytes exchanged
unfoldable pub low_first : List ℕ → ℕ → ℕ → ℕ
low_first b start q = get_or b (start + 2 * q) 0 + get_or b (start + 2 * q + 1) 0 * 256

unfoldable pub exchanged : ℕ → ℕ
exchanged v = v % 256 * 256 + v / 256
