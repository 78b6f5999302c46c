-- `file_below`: the numbers of the runs passed are judged below the limit. Assumes nothing.
use Rattle.std.proofs.Common.{◌*◌}
use Rattle.spec.specs.Checks.{judged}
use Rattle.spec.specs.Frame.{plane}
use Rattle.frame_below.specs.Below.{Below}
use Rattle.frame_below.proofs.file_below.Given as goal

abbrev pub invariant-loop-run : goal.invariant-loop-run
invariant-loop-run l = Below (λ j. judged l.values (plane l.file l.offset j)) (64 * l.run) l.limit
