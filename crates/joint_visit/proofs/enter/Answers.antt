-- The stores are built, then the window answers by its kind. Assumes nothing.
use Rattle.std.proofs.Common.{sym, ◌∙◌, arith}
use Rattle.visit.proofs.StartLaws.{levels-some}
use Rattle.spec.proofs.Plans.{with-own, kind-table}
use Rattle.joint_visit.proofs.VisitLaws.{counted_of, count-own, table-visited, guided-visited, blocks-visited}
use Rattle.joint_visit.proofs.enter.Goals as goal

pub returns-then-by_blocks : goal.returns-then-by_blocks
returns-then-by_blocks c =
    let w = c.requires.weight_rows in
    blocks-visited c.requires.fresh.0.pictured c.args.way 0 0 w.1 (sym c.by_blocks.ensures ∙ c.if-by_blocks.true) c.if-plan-eq2.true
    (w.2 c.if-plan-eq2.true) c.build.ensures c.enter_by_blocks.ensures

pub returns-then-plan-eq2 : goal.returns-then-plan-eq2
returns-then-plan-eq2 c =
    let w = c.requires.weight_rows in
    guided-visited c.requires.fresh.0.pictured c.args.way 0 0 w.1 (sym c.by_blocks.ensures ∙ c.if-by_blocks.false)
    (w.2 c.if-plan-eq2.true) c.build.ensures c.enter.ensures

pub visit-requires-clause-counted : goal.visit-requires-clause-counted
visit-requires-clause-counted c =
    let f = c.requires.fresh.0 in (
      counted_of f.pictured f.column f.row c.build.ensures,
      c.requires.weight_rows.0,
      kind-table f.pictured c.if-plan-eq2.false,
      count-own f.pictured c.start-a.ensures,
    )

pub visit-requires-clause-cut_lt_levels : goal.visit-requires-clause-cut_lt_levels
visit-requires-clause-cut_lt_levels c = (levels-some (with-own c.requires.fresh.0.pictured), omega arith, c.build.ensures.box)

pub returns : goal.returns
returns c =
    let f = c.requires.fresh.0.pictured in
    table-visited f c.args.way 0 0 (kind-table f c.if-plan-eq2.false) (count-own f c.start-a.ensures) c.build.ensures c.visit.ensures
