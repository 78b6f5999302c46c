-- `finish` meets its contract: way 4 makes its summary and hands back no box, the others leave both. Assumes nothing.
use borrow.Author.Rules.{rules}
use mathlib.Core.Path.{refl, sym, ◌∙◌}
use Rattle.ice_step.proofs.Laws.{made-blocks, made-levels, blocks-fit}
use Rattle.ice_step.proofs.finish.Goals as goal

pub fill-requires : goal.fill-requires
fill-requires c =
    let on = c.requires.planned.1 in record {
      planned = (c.requires.planned.0, on.column, on.row);
      file_in_bounds = blocks-fit c.args.way (sym c.by_blocks.ensures ∙ c.if-by_blocks.true) c.requires.planned.0 _ c.requires.plan_in_bounds;
    }

pub returns-then-by_blocks : goal.returns-then-by_blocks
returns-then-by_blocks c =
    made-blocks _ _ _ _ _ _ _ c.args.way (sym c.by_blocks.ensures ∙ c.if-by_blocks.true) refl c.fill.ensures

pub returns-else-by_blocks : goal.returns-else-by_blocks
returns-else-by_blocks c =
    made-levels _ _ _ _ _ _ _ c.args.way (sym c.by_blocks.ensures ∙ c.if-by_blocks.false) refl refl
