-- `level_search::search::descend`: the level passes. Assumes nothing.
use Rattle.level_search.proofs.SearchLaws.{Descending}
use Rattle.level_search.proofs.search.descend.Given as goal

abbrev pub invariant-loop-c : goal.invariant-loop-c
invariant-loop-c l = Descending l.coefficients l.counts l.sums l.tally l.c
