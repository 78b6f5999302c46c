-- `columns::store::start` meets its contract. Assumes nothing.
use Rattle.std.proofs.Common.{true}
use Rattle.spec.specs.Frame.{frame_of}
use Rattle.columns.specs.Blocks.{row_d}
use Rattle.columns.proofs.BlockLaws.{Piled}
use Rattle.columns.proofs.store.start.Given as goal

abbrev pub invariant-loop-y : goal.invariant-loop-y
invariant-loop-y l = Piled true l.plan.levels (λ y. row_d (frame_of l.file) l.s y) l.top l.rows l.initial.blocks l.blocks l.y
