-- `period` meets its contract. The loop's invariant: so many grants were made. Assumes nothing.
use Rattle.std.proofs.Common.{◌≡◌}
use Rattle.spec.specs.Schedule as definitions
use Rattle.schedule.specs.Tallies.{TalliesCounted}
use Rattle.schedule.proofs.period.Given as goal

abbrev pub invariant-loop : goal.invariant-loop
invariant-loop l = record { made : l.round ≡ definitions.grants l.sizes l.counter l.initial.round; tallies : TalliesCounted l.sizes l.round }
