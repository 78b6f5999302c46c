-- `ice::calls::walk` meets its contract: refused by the file or by its own checks, or done. Assumes nothing.
use mathlib.Core.Path.{◌≡◌, refl, sym, ◌∙◌}
use native.Mathlib.Omega.{arith}
use lib.ListN.{length}
use Rattle.std.proofs.lemmas.Result.{err_from_is_err_and}
use Rattle.spec.specs.declared.Settings.{Settings}
use Rattle.spec.specs.Refusal.{Outcome}
use Rattle.spec.specs.Frame.{settings_of}
use Rattle.spec.specs.Calls.{walk_checks, walk_outcome}
use Rattle.ice_step.specs.Finished.{Lent, lent, room_in}
use Rattle.ice_step.proofs.Laws.{settings-limits-in}
use Rattle.ice.proofs.CallLaws.{file-decides, own-decides, walks-refused, walks-done, granted}
use Rattle.ice.proofs.calls.walk.Goals as goal

pub returns-in_err-plan : goal.returns-in_err-plan
unfolding walk_outcome
returns-in_err-plan c =
    let held : Lent = lent c.args.counts.now c.args.words.now c.args.numbers.now c.args.summary.now in
    let p = err_from_is_err_and c.from_residual.result c.from_residual.ensures.1 in
    rw (p.1, p.2) (walks-refused _ held c.args.answers.now _ _ _ _ c.args.moves.now (file-decides _ (walk_checks (settings_of c.args.file.now) c.args.way c.args.column c.args.row (length c.args.moves.now) (room_in held) (length c.args.answers.now)) c.in_err-plan.ensures.outcome))

pub returns-in_err-walk_verdict : goal.returns-in_err-walk_verdict
unfolding walk_outcome
returns-in_err-walk_verdict c =
    let held : Lent = lent c.args.counts.now c.args.words.now c.args.numbers.now c.args.summary.now in
    let p = err_from_is_err_and c.from_residual-in_err-walk_verdict.result c.from_residual-in_err-walk_verdict.ensures.1 in
    rw (p.1, p.2) (walks-refused _ held c.args.answers.now _ _ _ _ c.args.moves.now (c.in_err-walk_verdict.ensures ∙ own-decides c.in_ok-plan.ensures.plan (λ (k : Settings). walk_checks k c.args.way c.args.column c.args.row (length c.args.moves.now) (room_in held) (length c.args.answers.now))))

pub walk_verdict-requires : goal.walk_verdict-requires
walk_verdict-requires c = settings-limits-in c.in_ok-plan.ensures.plan

pub travel-requires-clause-planned : goal.travel-requires-clause-planned
unfolding walk_outcome
travel-requires-clause-planned c =
    let held : Lent = lent c.args.counts.now c.args.words.now c.args.numbers.now c.args.summary.now in
    let k = c.in_ok-plan.ensures.plan in
    let accepts = sym (own-decides c.in_ok-plan.ensures.plan (λ (k : Settings). walk_checks k c.args.way c.args.column c.args.row (length c.args.moves.now) (room_in held) (length c.args.answers.now))) ∙ sym c.in_ok-walk_verdict.ensures in
    let g = granted k _ _ c.way_of-way.ensures _ _ _ held _ accepts in (k, g.serves)

pub travel-requires-clause-column_lt_width : goal.travel-requires-clause-column_lt_width
unfolding walk_outcome
travel-requires-clause-column_lt_width c =
    let held : Lent = lent c.args.counts.now c.args.words.now c.args.numbers.now c.args.summary.now in
    let k = c.in_ok-plan.ensures.plan in
    let accepts = sym (own-decides c.in_ok-plan.ensures.plan (λ (k : Settings). walk_checks k c.args.way c.args.column c.args.row (length c.args.moves.now) (room_in held) (length c.args.answers.now))) ∙ sym c.in_ok-walk_verdict.ensures in
    let g = granted k _ _ c.way_of-way.ensures _ _ _ held _ accepts in g.pixel

pub travel-requires-clause-moves_len_bound : goal.travel-requires-clause-moves_len_bound
unfolding walk_outcome
travel-requires-clause-moves_len_bound c =
    let held : Lent = lent c.args.counts.now c.args.words.now c.args.numbers.now c.args.summary.now in
    let k = c.in_ok-plan.ensures.plan in
    let accepts = sym (own-decides c.in_ok-plan.ensures.plan (λ (k : Settings). walk_checks k c.args.way c.args.column c.args.row (length c.args.moves.now) (room_in held) (length c.args.answers.now))) ∙ sym c.in_ok-walk_verdict.ensures in
    let g = granted k _ _ c.way_of-way.ensures _ _ _ held _ accepts in g.moves

pub travel-requires-clause-lent_fits : goal.travel-requires-clause-lent_fits
unfolding walk_outcome
travel-requires-clause-lent_fits c =
    let held : Lent = lent c.args.counts.now c.args.words.now c.args.numbers.now c.args.summary.now in
    let k = c.in_ok-plan.ensures.plan in
    let accepts = sym (own-decides c.in_ok-plan.ensures.plan (λ (k : Settings). walk_checks k c.args.way c.args.column c.args.row (length c.args.moves.now) (room_in held) (length c.args.answers.now))) ∙ sym c.in_ok-walk_verdict.ensures in
    let g = granted k _ _ c.way_of-way.ensures _ _ _ held _ accepts in g.fit

pub travel-requires-clause-moves_in_bounds : goal.travel-requires-clause-moves_in_bounds
unfolding walk_outcome
travel-requires-clause-moves_in_bounds c =
    let held : Lent = lent c.args.counts.now c.args.words.now c.args.numbers.now c.args.summary.now in
    let k = c.in_ok-plan.ensures.plan in
    let accepts = sym (own-decides c.in_ok-plan.ensures.plan (λ (k : Settings). walk_checks k c.args.way c.args.column c.args.row (length c.args.moves.now) (room_in held) (length c.args.answers.now))) ∙ sym c.in_ok-walk_verdict.ensures in
    let g = granted k _ _ c.way_of-way.ensures _ _ _ held _ accepts in g.answers

pub returns : goal.returns
unfolding walk_outcome
returns c =
    let held : Lent = lent c.args.counts.now c.args.words.now c.args.numbers.now c.args.summary.now in
    let k = c.in_ok-plan.ensures.plan in
    let accepts = sym (own-decides c.in_ok-plan.ensures.plan (λ (k : Settings). walk_checks k c.args.way c.args.column c.args.row (length c.args.moves.now) (room_in held) (length c.args.answers.now))) ∙ sym c.in_ok-walk_verdict.ensures in
    walks-done _ _ _ c.way_of-way.ensures held _ c.args.answers.now _ _ _ _ c.args.moves.now accepts c.travel.ensures.finished c.travel.ensures.answers_after
