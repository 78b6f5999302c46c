-- `window_weights::coefficients::of_window` meets its contract. Assumes nothing.
use Rattle.std.proofs.Common.{◌∙◌, arith}
use Rattle.spec.proofs.Plans.{facts, place-low}
use Rattle.window.proofs.PixelLaws.{guides_high, guide-low, place-small}
use Rattle.window_weights.proofs.SumLaws.{sums-small}
use Rattle.window_weights.proofs.CoefficientLaws.{smoothing-high, weighs, coefficients-small}
use Rattle.window_weights.proofs.coefficients.of_window.Goals as goal

pub overflow_mul-t : goal.overflow_mul-t
overflow_mul-t c =
    let r = c.requires in
    omega (arith, place-small r.planned.0 (place-low c.args.plan c.args.s c.args.t r.s_lt_width.0 r.s_lt_width.1))

pub overflow_add-t : goal.overflow_add-t
overflow_add-t c =
    let r = c.requires in
    omega (arith, place-small r.planned.0 (place-low c.args.plan c.args.s c.args.t r.s_lt_width.0 r.s_lt_width.1))

pub from_sums-requires-clause-sums_small : goal.from_sums-requires-clause-sums_small
from_sums-requires-clause-sums_small c =
    let r = c.requires in sums-small r.planned.0 r.s_lt_width.0 r.s_lt_width.1 r.s_lt_width.2

pub from_sums-requires-clause-smoothing_bound : goal.from_sums-requires-clause-smoothing_bound
from_sums-requires-clause-smoothing_bound c =
    let r = c.requires in
    let place = place-low c.args.plan c.args.s c.args.t r.s_lt_width.0 r.s_lt_width.1 in (
      smoothing-high r.planned.0 r.planned.1,
      omega (arith, c.guide_at-centre.ensures, guide-low r.planned.0 place, guides_high r.planned.0),
    )

pub returns : goal.returns
returns c =
    let r = c.requires in
    let w =
    weighs r.planned.0 r.planned.1 r.s_lt_width.0 r.s_lt_width.1 r.s_lt_width.2
    (c.guide_at-centre.ensures ∙ (facts r.planned.0).guide-at c.args.s c.args.t) c.from_sums.ensures in
    (w, coefficients-small r.planned.0 r.planned.1 w r.s_lt_width.0 r.s_lt_width.1)
