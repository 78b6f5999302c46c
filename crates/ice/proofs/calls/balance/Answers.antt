-- `ice::calls::balance` meets its contract: refused by the file or by its own checks, or done. Assumes nothing.
use mir.Syntax.{w64}
use mir.Facts.{to_z-of_z}
use mathlib.Core.Path.{◌≡◌, refl, sym, ◌∙◌}
use native.Mathlib.Omega.{arith}
use lib.ListN.{length}
use Rattle.std.proofs.lemmas.Result.{err_from_is_err_and}
use Rattle.spec.specs.declared.Settings.{Settings}
use Rattle.spec.specs.Refusal.{Outcome}
use Rattle.spec.specs.Frame.{settings_of}
use Rattle.spec.specs.Calls.{balance_checks, balance_outcome}
use Rattle.ice_step.proofs.Laws.{settings-limits-in}
use Rattle.ice.proofs.CallLaws.{file-decides, own-decides, balances-refused, balances-done, balance-granted}
use Rattle.ice.proofs.calls.balance.Goals as goal

pub returns-in_err-plan : goal.returns-in_err-plan
unfolding balance_outcome
returns-in_err-plan c =
    let p = err_from_is_err_and c.from_residual.result c.from_residual.ensures.1 in
    rw (p.1, p.2) (balances-refused _ _ _ _ _ (file-decides _ (balance_checks (settings_of c.args.file.now) c.args.column c.args.row c.args.level) c.in_err-plan.ensures.outcome))

pub returns-in_err-balance_verdict : goal.returns-in_err-balance_verdict
unfolding balance_outcome
returns-in_err-balance_verdict c =
    let p = err_from_is_err_and c.from_residual-in_err-balance_verdict.result c.from_residual-in_err-balance_verdict.ensures.1 in
    rw (p.1, p.2) (balances-refused _ _ _ _ _ (c.in_err-balance_verdict.ensures ∙ own-decides c.in_ok-plan.ensures.plan (λ (k : Settings). balance_checks k c.args.column c.args.row c.args.level)))

pub overflow_cast-level : goal.overflow_cast-level
unfolding balance_outcome
overflow_cast-level c =
    let k = c.in_ok-plan.ensures.plan in
    let accepts = sym (own-decides c.in_ok-plan.ensures.plan (λ (k : Settings). balance_checks k c.args.column c.args.row c.args.level)) ∙ sym c.in_ok-balance_verdict.ensures in
    let q = balance-granted k _ _ _ accepts in omega (arith, q.2, q.3)

pub balance_at-requires : goal.balance_at-requires
unfolding balance_outcome
balance_at-requires c =
    let k = c.in_ok-plan.ensures.plan in
    let accepts = sym (own-decides c.in_ok-plan.ensures.plan (λ (k : Settings). balance_checks k c.args.column c.args.row c.args.level)) ∙ sym c.in_ok-balance_verdict.ensures in
    let q = balance-granted k _ _ _ accepts in (k, q.0, q.1)

pub returns : goal.returns
unfolding balance_outcome
returns c =
    let k = c.in_ok-plan.ensures.plan in
    let accepts = sym (own-decides c.in_ok-plan.ensures.plan (λ (k : Settings). balance_checks k c.args.column c.args.row c.args.level)) ∙ sym c.in_ok-balance_verdict.ensures in
    balances-done _ _ _ _ _ accepts (to_z-of_z {w = w64} (record { sfits = c.balance_at.type_inv }) ∙ c.balance_at.ensures)
