-- `period` meets its contract. Assumes nothing.
use Rattle.std.proofs.Common.{arith, sym, ap, ◌∙◌}
use Rattle.spec.specs.declared.Round.{Round}
use Rattle.schedule.proofs.Grants.{tallies-grant, grants-zero, grants-next, grants-early, grant-uncounted}
use Rattle.schedule.proofs.period.Goals as goal

pub loop-init : goal.loop-init
loop-init c = record { made = sym (grants-zero _ _); tallies = c.requires.1 }

pub returns-then-next-round : goal.returns-then-next-round
returns-then-next-round c =
    grants-early _ c.loop.counter _ _ c.loop.round (omega arith) c.loop.invariant.made
    (grant-uncounted _ c.loop.round (sym (ap (λ (y : Round). y.granted) c.grant-next.ensures) ∙ c.if-next-round.true))

pub loop-preserved : goal.loop-preserved
loop-preserved c =
    record {
      made = grants-next _ c.loop.counter _ c.loop.round _ c.loop.invariant.made c.grant-next.ensures;
      tallies = rw c.grant-next.ensures (tallies-grant _ c.loop.round c.loop.invariant.tallies);
    }
