-- No reading balances; else the kind is 1 or 2.
use Rattle.std.proofs.Common.{◌∙◌, sym}
use Rattle.spec.specs.Frame.{frame_of}
use Rattle.spec.proofs.Own.{balance-empty}
use Rattle.spec.proofs.Plans.{kind-table}
use Rattle.balance.proofs.BalanceLaws.{empty-is}
use Rattle.balance.proofs.balance_at.Goals as goal

pub returns-then-is_empty : goal.returns-then-is_empty
returns-then-is_empty c =
    sym
    (balance-empty (frame_of c.args.file.now) c.args.s c.args.t c.args.top.0
    (sym (empty-is c.start-a.ensures c.is_empty.ensures) ∙ c.if-is_empty.true))

pub table_balance-requires-clause-planned : goal.table_balance-requires-clause-planned
table_balance-requires-clause-planned c = (c.requires.0, kind-table c.requires.0 c.if-plan-eq2.false, c.requires.1, c.requires.2)

pub table_balance-requires-clause-t_value : goal.table_balance-requires-clause-t_value
table_balance-requires-clause-t_value c = sym (empty-is c.start-a.ensures c.is_empty.ensures) ∙ c.if-is_empty.false
