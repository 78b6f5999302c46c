-- `columns::store::count_strip` meets its contract. Assumes nothing.
use Rattle.std.proofs.Common.{◌+◌, ◌*◌}
use Rattle.spec.specs.Frame.{frame_of}
use Rattle.columns.specs.Blocks.{pixel_d}
use Rattle.columns.proofs.BlockLaws.{Piled}
use Rattle.columns.proofs.store.count_strip.Given as goal

abbrev pub invariant-loop-x : goal.invariant-loop-x
invariant-loop-x l =
    Piled l.add l.plan.levels (λ x. pixel_d (frame_of l.file) (l.a + x * l.apart) (l.b + x * l.apart) x l.y) l.first l.count l.fn.blocks l.blocks l.x
