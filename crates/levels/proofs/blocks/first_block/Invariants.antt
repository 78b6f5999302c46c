-- `levels::blocks::first_block`: the blocks before this one are passed. Assumes nothing.
use Rattle.levels.proofs.BlockLaws.{BlocksPassed}
use Rattle.levels.proofs.blocks.first_block.Given as goal

abbrev pub invariant-loop-b : goal.invariant-loop-b
invariant-loop-b l = BlocksPassed l.coefficients l.counts l.sums l.b l.tally
