-- `bits_of_file`: none looked at is judged larger than the bits so far, exchanged. Assumes nothing.
use Rattle.std.proofs.Common.{◌+◌}
use Rattle.big_endian_part.specs.Part.{exchanged}
use Rattle.spec.specs.Checks.{judged}
use Rattle.spec.specs.Frame.{plane}
use Rattle.frame_below.specs.Below.{Below}
use Rattle.frame_below.proofs.bits_of_file.Given as goal

abbrev pub invariant-loop-number : goal.invariant-loop-number
invariant-loop-number l = Below (λ i. judged l.values (plane l.file l.offset i)) l.number-index (exchanged l.bits + 1)
