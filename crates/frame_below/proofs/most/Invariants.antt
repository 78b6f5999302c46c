-- `most`: no number looked at is judged larger. Assumes nothing.
use Rattle.std.proofs.Common.{◌+◌, get_or}
use Rattle.spec.specs.Checks.{judged}
use Rattle.frame_below.specs.Below.{Below}
use Rattle.frame_below.proofs.most.Given as goal

abbrev pub invariant-loop-number : goal.invariant-loop-number
invariant-loop-number l = Below (λ i. judged l.values (get_or l.numbers i 0)) l.number-index (l.most + 1)
