-- `run` meets its contract. Assumes nothing.
use Rattle.std.proofs.Common.{sym, ap, ◌∙◌}
use Rattle.spec.specs.Schedule as definitions
use Rattle.schedule.proofs.Grants.{tallies-opening, tallies-grants, periods-none, periods-next}
use Rattle.schedule.proofs.run.Goals as goal

pub loop-limit-init : goal.loop-limit-init
loop-limit-init c = record { over = sym (periods-none _ c.args.limits.now _); tallies = tallies-opening _ }

pub loop-limit-preserved : goal.loop-limit-preserved
loop-limit-preserved c =
    record {
      over = c.period-round.ensures ∙ ap (definitions.grants _ _) c.loop-limit.invariant.over
          ∙ sym (periods-next _ c.args.limits.now c.loop-limit.limit-index _ c.loop-limit-test.true);
      tallies = rw c.period-round.ensures (tallies-grants _ _ c.loop-limit.round c.loop-limit.invariant.tallies);
    }
