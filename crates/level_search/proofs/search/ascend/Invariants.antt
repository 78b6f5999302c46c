-- `level_search::search::ascend`: the levels below i fall short. Assumes nothing.
use Rattle.std.proofs.Common.{◌-◌}
use Rattle.level_search.proofs.SearchLaws.{Ascending}
use Rattle.level_search.proofs.search.ascend.Given as goal

abbrev pub invariant-loop-i : goal.invariant-loop-i
invariant-loop-i l = Ascending l.coefficients l.counts l.sums l.first l.tally l.i

abbrev pub decreases-loop-i : goal.decreases-loop-i
decreases-loop-i l = l.last - l.i
