-- `columns::store::exchange_of` meets its contract. Assumes nothing.
use Rattle.columns.proofs.StoreLaws.{ahead-is, back_is}
use Rattle.columns.proofs.store.exchange_of.Goals as goal

pub returns-then-c-c2 : goal.returns-then-c-c2
returns-then-c-c2 c = ahead-is c.args.r c.args.size c.min-first.ensures c.checked_sub-before.ensures c.then_some-after.ensures c.if-c-c2.true

pub returns-else-c-c2 : goal.returns-else-c-c2
returns-else-c-c2 c = back_is c.args.r c.args.size c.min-first.ensures c.checked_sub-before.ensures c.then_some-after.ensures c.if-c-c2.false
