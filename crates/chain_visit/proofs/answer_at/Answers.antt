-- `chain_visit::answer_at` meets its contract. Assumes nothing.
use Rattle.std.proofs.Common.{◌≡◌, ◌+◌, ◌∙◌, refl, ap, arith}
use Rattle.spec.specs.declared.Way.TheVariants.{Chain}
use Rattle.spec.specs.Frame.{frame_of}
use Rattle.spec.specs.Walk.{answer_number}
use Rattle.spec.proofs.Own.{count-empty, count-read}
use Rattle.visit.specs.declared.Visit.{Visit}
use Rattle.visit.proofs.Laws.{unread-state}
use Rattle.window.proofs.PixelLaws.{guides-range, levels_high}
use Rattle.window_weights.proofs.CoefficientLaws.{ends-monotone}
use Rattle.chain_visit.proofs.VisitLaws.{climbs, total-pos, climbed, answers}
use Rattle.chain_visit.proofs.answer_at.Goals as goal

pub returns-then-sums-eq0 : goal.returns-then-sums-eq0
returns-then-sums-eq0 c =
    let none = count-empty (frame_of c.args.file.now) c.args.column c.args.row (omega (arith, c.requires.sums_at.0.count)) in
    rw c.unread.ensures (unread-state Chain _ _ _ c.args.cut c.args.shifts c.args.running.sums c.args.running.free none, refl, refl)

pub climb-level-requires-clause-by_index : goal.climb-level-requires-clause-by_index
climb-level-requires-clause-by_index c =
    let pl = c.requires.planned in
    let at = c.requires.column_lt_width in (
      c.args.plan.levels,
      levels_high pl.0,
      climbs pl.0 at.0 at.1 pl.1 _ c.of_window-coefficients.ensures.0 _ _ c.requires.sums_at.1,
    )

pub climb-level-requires-clause-coefficients_small : goal.climb-level-requires-clause-coefficients_small
climb-level-requires-clause-coefficients_small c =
    let pl = c.requires.planned in
    let at = c.requires.column_lt_width in
    let read = count-read (frame_of c.args.file.now) c.args.column c.args.row (omega (arith, c.requires.sums_at.0.count)) in
    (c.of_window-coefficients.ensures.1, total-pos pl.0 at.0 at.1 pl.1 read _ c.of_window-coefficients.ensures.0)

pub monotone-monotone-requires-clause-le_guides : goal.monotone-monotone-requires-clause-le_guides
monotone-monotone-requires-clause-le_guides c = guides-range c.requires.planned.0

-- what the visit holds goes field by field, so that a wrong one is refused as such
pub returns : goal.returns
returns c =
    let pl = c.requires.planned in
    let at = c.requires.column_lt_width in
    let read = count-read (frame_of c.args.file.now) c.args.column c.args.row (omega (arith, c.requires.sums_at.0.count)) in
    let column-is : c.answered.result.column ≡ c.args.column = omega (arith, ap (λ (v : Visit). v.column) c.answered.ensures) in
    let row_is : c.answered.result.row ≡ c.args.row = omega (arith, ap (λ (v : Visit). v.row) c.answered.ensures) in
    let cut-is : c.answered.result.cut.0 ≡ c.climb-level.result.0 = omega (arith, ap (λ (v : Visit). v.cut.0) c.answered.ensures) in
    let answer-is : answer_number c.answered.result.answer ≡ c.climb-level.result.0 =
    omega (arith, ap (λ (v : Visit). answer_number v.answer) c.answered.ensures) in
    let shifts-are : c.answered.result.shifts ≡ c.args.shifts + c.added.result =
    omega (arith, ap (λ (v : Visit). v.shifts) c.answered.ensures) in (
      answers pl.0 at.0 at.1 pl.1 read _ _ c.answered.result c.climb-level.result.0 _ c.monotone-monotone.result column-is row_is cut-is
          answer-is shifts-are
          (climbed pl.0 at.0 at.1 pl.1 _ c.of_window-coefficients.ensures.0 _ _ c.requires.sums_at.1 _ c.climb-level.ensures)
          (c.monotone-monotone.ensures ∙ ends-monotone pl.0 pl.1 c.of_window-coefficients.ensures.0 at.0 at.1) c.added.ensures.0,
      ap (λ (v : Visit). v.running.sums) c.answered.ensures,
      ap (λ (v : Visit). v.running.free) c.answered.ensures,
    )
