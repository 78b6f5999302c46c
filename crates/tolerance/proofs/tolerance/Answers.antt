-- `tolerance` meets its contract: what the checks let pass is what both filters ask. Assumes nothing.
use native.Mathlib.Omega.{arith}
use Rattle.tolerance.specs.Contract.{buffers}
use Rattle.tolerance.proofs.Laws.{granted}
use Rattle.tolerance.proofs.tolerance.Goals as goal

pub filter_both-requires : goal.filter_both-requires
filter_both-requires c =
    let a = c.args in
    let k = c.in_ok-plan.ensures.plan in
    let g = granted k _ (buffers a.counts.now a.words.now a.least.now a.greatest.now) c.in_ok-tolerance_verdict.ensures in
    record { planned = (k, g.pictured, g.one); lent_fits = g.fit; height_in_bounds = (omega arith, omega arith) }
