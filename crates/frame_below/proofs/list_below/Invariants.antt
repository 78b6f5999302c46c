-- `list_below`: the numbers of the runs passed are judged below the limit. Assumes nothing.
use Rattle.std.proofs.Common.{◌*◌, get_or}
use Rattle.spec.specs.Checks.{judged}
use Rattle.frame_below.specs.Below.{Below}
use Rattle.frame_below.proofs.list_below.Given as goal

abbrev pub invariant-loop-run : goal.invariant-loop-run
invariant-loop-run l = Below (λ j. judged l.values (get_or l.list j 0)) (64 * l.run) l.limit
