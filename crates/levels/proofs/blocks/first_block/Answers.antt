-- `levels::blocks::first_block` meets its contract. Assumes nothing.
use Rattle.std.proofs.Common.{sym, ◌∙◌, ◌+◌, ◌*◌, arith}
use Rattle.level_search.proofs.SearchLaws.{half_at}
use Rattle.levels.proofs.BlockLaws.{none_passed, through, block-passed, block-reaches}
use Rattle.levels.proofs.blocks.first_block.Goals as goal

pub loop-b-init : goal.loop-b-init
loop-b-init c = none_passed _ _ _

pub returns-then-reached : goal.returns-then-reached
returns-then-reached c =
    let v = c.loop-b.invariant in
    let t = through c.requires.1 v c.total.result c.total-in-loop-b.result c.total.ensures c.total-in-loop-b.ensures in
    let p = sym (half_at c.args.coefficients (c.loop-b.b * 16 + 15) t) ∙ sym c.reached.ensures ∙ c.if-reached.true in
    block-reaches c.requires.1 v (omega arith) p

pub loop-b-preserved : goal.loop-b-preserved
loop-b-preserved c =
    let v = c.loop-b.invariant in
    let t = through c.requires.1 v c.total.result c.total-in-loop-b.result c.total.ensures c.total-in-loop-b.ensures in
    let p = sym (half_at c.args.coefficients (c.loop-b.b * 16 + 15) t) ∙ sym c.reached.ensures ∙ c.if-reached.false in
    block-passed c.requires.1 v (omega arith) p t
