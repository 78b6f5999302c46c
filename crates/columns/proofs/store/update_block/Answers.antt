-- `columns::store::update_block` meets its contract. Assumes nothing.
use Rattle.std.proofs.Common.{arith, ◌∙◌}
use Rattle.columns.proofs.SideLaws.{slid-pick, slid-next}
use Rattle.columns.proofs.store.update_block.Goals as goal

pub loop-i-preserved : goal.loop-i-preserved
loop-i-preserved c =
    let v = c.loop-i.invariant in
    slid-next v (omega arith) (omega (arith, v.len)) c.requires.block_ready
    (c.pick-u.ensures ∙ slid-pick v (omega arith) c.args.more c.requires.more_lt_at.0)
    (c.pick-v.ensures ∙ slid-pick v (omega arith) c.args.less c.requires.more_lt_at.1)
