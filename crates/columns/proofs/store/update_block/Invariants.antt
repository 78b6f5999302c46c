-- `columns::store::update_block` meets its contract. Assumes nothing.
use Rattle.columns.specs.Blocks.{cell_of}
use Rattle.columns.proofs.SideLaws.{BlockSlid}
use Rattle.columns.proofs.store.update_block.Given as goal

abbrev pub invariant-loop-i : goal.invariant-loop-i
invariant-loop-i l = BlockSlid l.l l.at (cell_of l.l l.more l.fn.blocks) (cell_of l.l l.less l.fn.blocks) l.i l.fn.blocks l.blocks
