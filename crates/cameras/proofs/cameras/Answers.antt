-- `cameras` meets its contract: all checks, the grants counted, then each file walked. Assumes nothing.
use mathlib.Core.Path.{sym, subst}
use Rattle.spec.specs.declared.Round.{Round}
use Rattle.ice_prefix.specs.Prefix.{parts}
use Rattle.cameras.specs.Parts.{Servable}
use Rattle.cameras.proofs.CallLaws.{batch-accepted, sizes_run, round-run, servable-by, schedules-done}
use Rattle.cameras.proofs.cameras.Goals as goal

pub run-round-requires : goal.run-round-requires
run-round-requires c =
    let a = c.args in
    let t = c.in_ok-totals.ensures in
    let held = parts a.counts.now a.words.now a.answers.now in
    sizes_run a.files.now a.lengths.now a.limits.now _ held (batch-accepted _ _ _ held (sym t.verdict)) t.sizes

pub serve_files-requires : goal.serve_files-requires
serve_files-requires c =
    let a = c.args in
    let t = c.in_ok-totals.ensures in
    let held = parts a.counts.now a.words.now a.answers.now in
    subst (λ (x : Round). Servable a.files.now a.lengths.now x.tallies held) (sym (round-run _ _ _ _ t.sizes c.run-round.ensures))
    (servable-by _ _ _ _ (batch-accepted _ _ _ held (sym t.verdict)))

pub returns : goal.returns
returns c =
    let t = c.in_ok-totals.ensures in
    schedules-done _ _ _ _ _ c.run-round.result t.verdict (round-run _ _ _ _ t.sizes c.run-round.ensures) c.serve_files.ensures
