-- `ice::calls::filter` meets its contract: refused by the file or by its own checks, or done. Assumes nothing.
use mathlib.Core.Path.{◌≡◌, refl, sym, ◌∙◌}
use native.Mathlib.Omega.{arith}
use lib.ListN.{length}
use Rattle.std.proofs.lemmas.Result.{err_from_is_err_and}
use Rattle.spec.specs.declared.Settings.{Settings}
use Rattle.spec.specs.Refusal.{Outcome}
use Rattle.spec.specs.Frame.{settings_of}
use Rattle.spec.specs.Calls.{filter_checks, filter_outcome}
use Rattle.ice_step.specs.Finished.{Lent, lent, room_in}
use Rattle.ice_step.proofs.Laws.{settings-limits-in}
use Rattle.ice.proofs.CallLaws.{file-decides, own-decides, filters-refused, filters-done, filter-granted}
use Rattle.ice.proofs.calls.filter.Goals as goal

pub returns-in_err-plan : goal.returns-in_err-plan
unfolding filter_outcome
returns-in_err-plan c =
    let held : Lent = lent c.args.counts.now c.args.words.now c.args.numbers.now c.args.summary.now in
    let p = err_from_is_err_and c.from_residual.result c.from_residual.ensures.1 in
    rw (p.1, p.2) (filters-refused _ held c.args.output.now _ _ (file-decides _ (filter_checks (settings_of c.args.file.now) c.args.way (room_in held) (length c.args.output.now)) c.in_err-plan.ensures.outcome))

pub returns-in_err-filter_verdict : goal.returns-in_err-filter_verdict
unfolding filter_outcome
returns-in_err-filter_verdict c =
    let held : Lent = lent c.args.counts.now c.args.words.now c.args.numbers.now c.args.summary.now in
    let p = err_from_is_err_and c.from_residual-in_err-filter_verdict.result c.from_residual-in_err-filter_verdict.ensures.1 in
    rw (p.1, p.2) (filters-refused _ held c.args.output.now _ _ (c.in_err-filter_verdict.ensures ∙ own-decides c.in_ok-plan.ensures.plan (λ (k : Settings). filter_checks k c.args.way (room_in held) (length c.args.output.now))))

pub filter_verdict-requires : goal.filter_verdict-requires
filter_verdict-requires c = settings-limits-in c.in_ok-plan.ensures.plan

pub sweep-requires-clause-pictured : goal.sweep-requires-clause-pictured
unfolding filter_outcome
sweep-requires-clause-pictured c =
    let held : Lent = lent c.args.counts.now c.args.words.now c.args.numbers.now c.args.summary.now in
    let k = c.in_ok-plan.ensures.plan in
    let accepts = sym (own-decides c.in_ok-plan.ensures.plan (λ (k : Settings). filter_checks k c.args.way (room_in held) (length c.args.output.now))) ∙ sym c.in_ok-filter_verdict.ensures in
    let g = filter-granted k _ _ c.way_of-way.ensures held _ accepts in (k, g.serves)

pub sweep-requires-clause-lent_fits : goal.sweep-requires-clause-lent_fits
unfolding filter_outcome
sweep-requires-clause-lent_fits c =
    let held : Lent = lent c.args.counts.now c.args.words.now c.args.numbers.now c.args.summary.now in
    let k = c.in_ok-plan.ensures.plan in
    let accepts = sym (own-decides c.in_ok-plan.ensures.plan (λ (k : Settings). filter_checks k c.args.way (room_in held) (length c.args.output.now))) ∙ sym c.in_ok-filter_verdict.ensures in
    let g = filter-granted k _ _ c.way_of-way.ensures held _ accepts in g.fit

pub sweep-requires-clause-height_in_bounds : goal.sweep-requires-clause-height_in_bounds
unfolding filter_outcome
sweep-requires-clause-height_in_bounds c =
    let held : Lent = lent c.args.counts.now c.args.words.now c.args.numbers.now c.args.summary.now in
    let k = c.in_ok-plan.ensures.plan in
    let accepts = sym (own-decides c.in_ok-plan.ensures.plan (λ (k : Settings). filter_checks k c.args.way (room_in held) (length c.args.output.now))) ∙ sym c.in_ok-filter_verdict.ensures in
    let g = filter-granted k _ _ c.way_of-way.ensures held _ accepts in g.plane

pub returns : goal.returns
unfolding filter_outcome
returns c =
    let held : Lent = lent c.args.counts.now c.args.words.now c.args.numbers.now c.args.summary.now in
    let k = c.in_ok-plan.ensures.plan in
    let accepts = sym (own-decides c.in_ok-plan.ensures.plan (λ (k : Settings). filter_checks k c.args.way (room_in held) (length c.args.output.now))) ∙ sym c.in_ok-filter_verdict.ensures in
    filters-done _ _ _ c.way_of-way.ensures held _ c.args.output.now _ _ accepts c.sweep.ensures.finished c.sweep.ensures.output_after
