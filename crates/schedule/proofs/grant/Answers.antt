-- `grant` meets its contract. Assumes nothing.
use Rattle.std.proofs.Common.{arith, sym}
use Rattle.schedule.proofs.Grants.{served-by, grant-none, granted-low}
use Rattle.schedule.proofs.grant.Goals as goal

pub returns-in_default : goal.returns-in_default
returns-in_default c = sym (grant-none _ c.args.round (omega (arith, c.in_default.ensures)))

pub overflow_add-result-2 : goal.overflow_add-result-2
overflow_add-result-2 c = omega (arith, granted-low _ c.args.round c.requires.0 c.requires.1)

pub returns : goal.returns
returns c = served-by _ c.args.round _ c.in-Some.ensures.1 c.in-Some.ensures.0
