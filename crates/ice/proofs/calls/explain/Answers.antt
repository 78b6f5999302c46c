-- `ice::calls::explain` meets its contract: refused by the file or by its own checks, or done. Assumes nothing.
use mathlib.Core.Path.{◌≡◌, refl, sym, ◌∙◌}
use native.Mathlib.Omega.{arith}
use lib.ListN.{length}
use Rattle.std.proofs.lemmas.Result.{err_from_is_err_and}
use Rattle.spec.specs.declared.Settings.{Settings}
use Rattle.spec.specs.Refusal.{Outcome}
use Rattle.spec.specs.Frame.{settings_of}
use Rattle.spec.specs.Calls.{explain_checks, explain_outcome}
use Rattle.ice_step.proofs.Laws.{settings-limits-in}
use Rattle.ice.proofs.CallLaws.{file-decides, own-decides, explains-refused, explains-done, explain-granted}
use Rattle.ice.proofs.calls.explain.Goals as goal

pub returns-in_err-plan : goal.returns-in_err-plan
unfolding explain_outcome
returns-in_err-plan c =
    let p = err_from_is_err_and c.from_residual.result c.from_residual.ensures.1 in
    rw (p.1, p.2) (explains-refused _ _ _ _ (file-decides _ (explain_checks (settings_of c.args.file.now) c.args.column c.args.row) c.in_err-plan.ensures.outcome))

pub returns-in_err-explain_verdict : goal.returns-in_err-explain_verdict
unfolding explain_outcome
returns-in_err-explain_verdict c =
    let p = err_from_is_err_and c.from_residual-in_err-explain_verdict.result c.from_residual-in_err-explain_verdict.ensures.1 in
    rw (p.1, p.2) (explains-refused _ _ _ _ (c.in_err-explain_verdict.ensures ∙ own-decides c.in_ok-plan.ensures.plan (λ (k : Settings). explain_checks k c.args.column c.args.row)))

pub grounds-requires : goal.grounds-requires
unfolding explain_outcome
grounds-requires c =
    let k = c.in_ok-plan.ensures.plan in
    let accepts = sym (own-decides c.in_ok-plan.ensures.plan (λ (k : Settings). explain_checks k c.args.column c.args.row)) ∙ sym c.in_ok-explain_verdict.ensures in
    let q = explain-granted k _ _ accepts in (k, q.0, q.1)

pub returns : goal.returns
unfolding explain_outcome
returns c =
    let k = c.in_ok-plan.ensures.plan in
    let accepts = sym (own-decides c.in_ok-plan.ensures.plan (λ (k : Settings). explain_checks k c.args.column c.args.row)) ∙ sym c.in_ok-explain_verdict.ensures in
    explains-done _ _ _ _ accepts c.grounds.ensures
