-- `most_of_file`: the bytes of the numbers passed are exchanged. Assumes nothing.
use Rattle.std.proofs.Common.{◌≡◌, ℕ, ◌<◌, ◌≤◌, get_or}
use Rattle.spec.specs.Frame.{plane}
use Rattle.big_endian_part.specs.Part.{low_first}
use Rattle.frame_below.proofs.most_of_file.Given as goal

abbrev pub invariant-loop-number : goal.invariant-loop-number
invariant-loop-number l = record {
  passed : (i : ℕ) → i < l.number-index → get_or l.number-items i 0 ≡ plane l.file l.offset i;
  coming : (i : ℕ) → l.number-index ≤ i → i < 64 → get_or l.number-items i 0 ≡ low_first l.file l.offset i;
}
