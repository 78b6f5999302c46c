-- Kind 2 by its formula, which has no hollow window; kind 1 by the own weights, or ones.
use Rattle.std.proofs.Common.{arith, sym}
use Rattle.spec.proofs.Plans.{pixel-of, kind-of, kind-table}
use Rattle.spec.proofs.Own.{guided-weighs}
use Rattle.window.proofs.PixelLaws.{place-small}
use Rattle.joint_rows.proofs.RowLaws.{centre-place, centre-low, row-weighs-own}
use Rattle.weight_sums.proofs.weights_of.Goals as goal

pub returns-then-plan-eq2 : goal.returns-then-plan-eq2
returns-then-plan-eq2 c =
    let a = c.requires.planned in
    record {
      weighs = c.guided_formula.ensures.0;
      hollow = sym (guided-weighs (pixel-of a.0 a.1 a.2) (kind-of a.0 c.if-plan-eq2.true));
      long = c.guided_formula.ensures.1;
    }

pub overflow_mul-t : goal.overflow_mul-t
overflow_mul-t c = let a = c.requires.planned in omega (arith, place-small a.0 (centre-place a.0 a.1 a.2))

pub overflow_add-t : goal.overflow_add-t
overflow_add-t c = let a = c.requires.planned in omega (arith, place-small a.0 (centre-place a.0 a.1 a.2))

pub table_row-requires : goal.table_row-requires
table_row-requires c = let a = c.requires.planned in (a.0, centre-low a.0 a.1 a.2 c.guide_at-centre.ensures)

pub ones_if_hollow-hollow-requires-clause-planned : goal.ones_if_hollow-hollow-requires-clause-planned
ones_if_hollow-hollow-requires-clause-planned c = let a = c.requires.planned in (a.0, kind-table a.0 c.if-plan-eq2.false, a.1, a.2)

pub ones_if_hollow-hollow-requires-clause-row_own : goal.ones_if_hollow-hollow-requires-clause-row_own
ones_if_hollow-hollow-requires-clause-row_own c =
    let a = c.requires.planned in (
      row-weighs-own a.0 a.1 a.2 c.guide_at-centre.ensures (kind-table a.0 c.if-plan-eq2.false) c.table_row.ensures,
      c.requires.sums_at.1,
    )
