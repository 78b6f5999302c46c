-- Where the bits of the sums so far, together, are all 0, each sum is.
use Rattle.std.proofs.Common.{rules}
use Rattle.explain_half.proofs.HalfLaws.{zeros-more}
use Rattle.explain_half.proofs.vacant.Goals as goal

pub loop-sum-preserved : goal.loop-sum-preserved
loop-sum-preserved c = zeros-more _ _ _ (search rules) (search rules) c.loop-sum.invariant
