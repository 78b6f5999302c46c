-- `passed_over` meets its contract. Assumes nothing.
use Rattle.std.proofs.Common.{arith}
use Rattle.schedule.proofs.Grants.{over_found, over_none}
use Rattle.schedule.proofs.passed_over.Goals as goal

pub returns-then-round-k : goal.returns-then-round-k
returns-then-round-k c =
    (omega arith, over_found c.args.sizes c.args.round c.loop-j.j (omega arith) c.if-round-k.true c.loop-j.invariant)

pub returns : goal.returns
returns c = over_none c.args.sizes c.args.round (λ i l. c.loop-j.invariant i (omega arith))
