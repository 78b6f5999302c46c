-- `read_files` meets its contract. Assumes nothing.
use mathlib.Core.Path.{refl, sym, ap, ◌∙◌}
use native.Mathlib.Omega.{arith}
use Rattle.std.proofs.lemmas.Result.{err_from_is_err_and}
use Rattle.spec.specs.Checks.{verdict}
use Rattle.cameras_checks.proofs.Reading.{reading-next, reading-end, part-is, read-refused, limits-planned}
use Rattle.cameras_checks.proofs.read_files.Goals as goal

pub returns-in_err-plan : goal.returns-in_err-plan
returns-in_err-plan c =
    let p = err_from_is_err_and c.from_residual.result c.from_residual.ensures.1 in
    rw (p.1, p.2)
    (read-refused _ _ c.loop-i.invariant c.loop-i-test.true _
    (c.in_err-plan.ensures.outcome ∙ ap verdict (part-is c.args.files.now c.args.lengths.now c.loop-i.i c.loop-i.at _ refl)))

pub with_file-totals-requires : goal.with_file-totals-requires
with_file-totals-requires c = (limits-planned c.in_ok-plan.ensures.plan, c.loop-i.invariant.low, omega arith)

pub loop-i-preserved : goal.loop-i-preserved
loop-i-preserved c =
    reading-next c.args.files.now c.args.lengths.now c.loop-i.totals _ c.loop-i.at c.loop-i.i c.loop-i.invariant
    c.loop-i-test.true (omega arith) c.in_ok-plan.ensures.plan
    (part-is c.args.files.now c.args.lengths.now c.loop-i.i c.loop-i.at _ refl) c.with_file-totals.ensures

pub returns : goal.returns
returns c =
    let e = reading-end _ _ _ _ _ c.loop-i.invariant (omega arith) c.loop-i-test.false in
    record { verdict = sym e.0; totals = e.1 }
