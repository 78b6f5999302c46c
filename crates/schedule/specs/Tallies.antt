-- What holds of the grants so far, whatever the limits are, of files that are no larger than a frame can be.
-- Assumes nothing.
use Rattle.std.specs.Prelude.{◌≡◌, List, ℕ, ◌≤◌, length, get_or}
use Rattle.spec.specs.declared.Round.{Round}
use Rattle.spec.specs.Cameras.{total}

-- the pixels of eight files
pub record SizesFit (sizes : List ℕ) : Type 0 where
  pub long : length sizes ≡ 8
  pub low : (k : ℕ) → get_or sizes k 0 ≤ 262144

-- no file has more pixels answered than it has, and the grants made are the pixels answered
pub record TalliesCounted (sizes : List ℕ) (x : Round) : Type 0 where
  pub long : length x.tallies ≡ 8
  pub next_low : x.next ≤ 8
  pub within : (k : ℕ) → get_or x.tallies k 0 ≤ get_or sizes k 0
  pub counted : x.granted ≡ total x.tallies
