-- `chain::moves::start` meets its contract: the list holds the first k columns of the window.
-- Assumes nothing.
use Rattle.chain_list.specs.Chain.{Beyond}
use Rattle.chain.specs.Lines.{nodes_of}
use Rattle.chain.proofs.MoveLaws.{ColumnsListed}
use Rattle.chain.proofs.moves.start.Given as goal

abbrev pub invariant-loop-k : goal.invariant-loop-k
invariant-loop-k l = record {
  listed : ColumnsListed l.file l.plan l.s l.t l.k l.free l.nodes;
  beyond : Beyond (nodes_of l.plan) l.initial.nodes l.nodes;
}
