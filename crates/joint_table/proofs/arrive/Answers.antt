-- The centre's guide chooses the row, and by the row the counts give the frame's answer. Assumes nothing.
use Rattle.std.proofs.Common.{refl, sym, ◌∙◌, subst, arith}
use Rattle.spec.specs.Frame.{frame_with}
use Rattle.spec.proofs.Plans.{with-own}
use Rattle.window.proofs.PixelLaws.{place-small}
use Rattle.joint_search.specs.Window.{RowWeighs}
use Rattle.joint_search.proofs.WindowLaws.{searchable, row_fits, box_of_lem}
use Rattle.joint_rows.proofs.RowLaws.{centre-place, centre-is, centre-low, centre-small, mirror-weighs, row-weighs-own}
use Rattle.joint_answer.proofs.AnswerLaws.{counted-weighs}
use Rattle.joint_table.proofs.ArriveLaws.{arrives-of, centre-some}
use Rattle.joint_table.proofs.arrive.Goals as goal

pub overflow_mul-place : goal.overflow_mul-place
overflow_mul-place c = let k = c.requires.counted.0 in omega (arith, place-small k.pictured (centre-place k.pictured k.column k.row))

pub overflow_add-place : goal.overflow_add-place
overflow_add-place c = let k = c.requires.counted.0 in omega (arith, place-small k.pictured (centre-place k.pictured k.column k.row))

-- built-in: the part of the constants weighs the window, where it has all 256 of the row
pub overflow_sub-from : goal.overflow_sub-from
overflow_sub-from c = let k = c.requires.counted.0 in centre-small k.pictured k.column k.row c.guide_at-centre.ensures

pub arrive-requires-clause-searchable : goal.arrive-requires-clause-searchable
arrive-requires-clause-searchable c =
    let k = c.requires.counted.0 in
    let built = mirror-weighs k.pictured k.column k.row c.guide_at-centre.ensures c.requires.counted.2 c.if-plan-eq0.true
    (c.requires.counted.1.mirror c.if-plan-eq0.true) refl refl in
    (searchable k, row_fits k built)

pub arrive-requires-clause-cut_lt_levels : goal.arrive-requires-clause-cut_lt_levels
arrive-requires-clause-cut_lt_levels c =
    let p = c.requires.cut_lt_levels in (p.0, p.1, p.2 ∙ box_of_lem c.requires.counted.0 c.args.cut.0 p.0)

pub returns-then-plan-eq0 : goal.returns-then-plan-eq0
returns-then-plan-eq0 c =
    let k = c.requires.counted.0 in
    let built = mirror-weighs k.pictured k.column k.row c.guide_at-centre.ensures c.requires.counted.2 c.if-plan-eq0.true
    (c.requires.counted.1.mirror c.if-plan-eq0.true) refl refl in
    arrives-of k c.requires.counted.3 built c.requires.counted.2 c.args.way c.arrive.ensures

-- the file's own
pub own_row-requires : goal.own_row-requires
own_row-requires c =
    let k = c.requires.counted.0 in
    (with-own k.pictured, centre-low k.pictured k.column k.row c.guide_at-centre.ensures, c.if-plan-eq0.false, refl)

pub bounds-row-centre : goal.bounds-row-centre
bounds-row-centre c = let k = c.requires.counted.0 in omega (arith, centre-small k.pictured k.column k.row c.guide_at-centre.ensures)

pub ones_if_hollow-requires-clause-searchable : goal.ones_if_hollow-requires-clause-searchable
ones_if_hollow-requires-clause-searchable c =
    let k = c.requires.counted.0 in
    let own = row-weighs-own k.pictured k.column k.row c.guide_at-centre.ensures c.requires.counted.2 c.own_row.ensures in
    (searchable k, row_fits k own, c.own_row.ensures.long)

pub ones_if_hollow-requires-clause-cut_lt_levels : goal.ones_if_hollow-requires-clause-cut_lt_levels
ones_if_hollow-requires-clause-cut_lt_levels c =
    let k = c.requires.counted.0 in
    let own = row-weighs-own k.pictured k.column k.row c.guide_at-centre.ensures c.requires.counted.2 c.own_row.ensures in (
      c.requires.cut_lt_levels.0,
      λ e. centre-some k c.requires.counted.3 own c.requires.counted.2 (centre-is k.pictured k.column k.row c.guide_at-centre.ensures)
          (sym c.centre_weighs-weighs.ensures ∙ e),
    )

pub arrive-requires-2-clause-searchable : goal.arrive-requires-2-clause-searchable
arrive-requires-2-clause-searchable c =
    let k = c.requires.counted.0 in
    let own = row-weighs-own k.pictured k.column k.row c.guide_at-centre.ensures c.requires.counted.2 c.own_row.ensures in
    let counted = subst (RowWeighs (frame_with c.args.file.now c.args.plane.now) c.args.s c.args.t) (sym c.ones_if_hollow.ensures.0)
    (counted-weighs k c.requires.counted.3 own) in
    (searchable k, row_fits k counted)

pub arrive-requires-2-clause-cut_lt_levels : goal.arrive-requires-2-clause-cut_lt_levels
arrive-requires-2-clause-cut_lt_levels c =
    let p = c.requires.cut_lt_levels in (p.0, p.1, p.2 ∙ box_of_lem c.requires.counted.0 c.args.cut.0 p.0)

pub returns : goal.returns
returns c =
    let k = c.requires.counted.0 in
    let own = row-weighs-own k.pictured k.column k.row c.guide_at-centre.ensures c.requires.counted.2 c.own_row.ensures in
    let counted = subst (RowWeighs (frame_with c.args.file.now c.args.plane.now) c.args.s c.args.t) (sym c.ones_if_hollow.ensures.0)
    (counted-weighs k c.requires.counted.3 own) in
    arrives-of k c.requires.counted.3 counted c.requires.counted.2 c.args.way c.arrive-2.ensures
