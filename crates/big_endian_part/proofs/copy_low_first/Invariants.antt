-- `copy_low_first`: after k turns the first k numbers are there. Assumes nothing.
use Rattle.std.proofs.Common.{◌≡◌, ℕ, ◌<◌, get_or}
use Rattle.big_endian_part.specs.Part.{low_first}
use Rattle.big_endian_part.proofs.copy_low_first.Given as goal

abbrev pub invariant-loop-k : goal.invariant-loop-k
invariant-loop-k l = (g : ℕ) → g < l.k → get_or l.number-items g 0 ≡ low_first l.file l.first g
