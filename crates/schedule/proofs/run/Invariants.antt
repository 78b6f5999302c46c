-- `run` meets its contract. The loop's invariant: so many periods are over. Assumes nothing.
use Rattle.std.proofs.Common.{◌≡◌, take}
use Rattle.spec.specs.Schedule as definitions
use Rattle.schedule.specs.Tallies.{TalliesCounted}
use Rattle.schedule.proofs.run.Given as goal

abbrev pub invariant-loop-limit : goal.invariant-loop-limit
invariant-loop-limit l =
    record {
      over : l.round ≡ definitions.periods l.sizes (take l.limit-index l.limits) definitions.opening;
      tallies : TalliesCounted l.sizes l.round;
    }
