-- `list_below` meets its contract. Assumes nothing.
use Rattle.std.proofs.Common.{arith}
use Rattle.std.proofs.lemmas.Grind.{common_steps}
use Rattle.frame_below.proofs.BelowLaws.{runs-below}
use Rattle.frame_below.proofs.list_below.Goals as goal

pub loop-run-preserved : goal.loop-run-preserved
loop-run-preserved c = runs-below _ c.loop-run.run c.loop-run.invariant (λ j less. grind (arith, common_steps, c.most.ensures j))
