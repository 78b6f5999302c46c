-- `put_every_other` meets its contract. Assumes nothing.
use Rattle.std.proofs.Common.{ℕ, ◌≡◌, ◌+◌, ◌*◌, arith, refl, ap, ◌∙◌}
use Rattle.std.proofs.lemmas.List.Edits.{sets}
use Rattle.byte_planes_move.specs.EveryOther.{every_other}
use Rattle.byte_planes_move.proofs.MoveLaws.{none-put, one-put, more-put}
use Rattle.byte_planes_move.proofs.put_every_other.Goals as goal

pub loop-run-init : goal.loop-run-init
loop-run-init c = none-put _ c.args.file.now c.args.from c.args.at

pub loop-run-preserved : goal.loop-run-preserved
loop-run-preserved c =
    let a = c.args in
    let next : 64 * c.loop-run.run + 64 ≡ 64 * (c.loop-run.run + 1) = omega arith in
    more-put a.output.now a.file.now a.from a.at (64 * c.loop-run.run) 64 c.loop-run.invariant c.put_run.ensures refl refl
    ∙ ap (λ (k : ℕ). sets a.output.now a.at (every_other a.file.now a.from k)) next

pub loop-q-preserved : goal.loop-q-preserved
loop-q-preserved c = one-put c.args.output.now c.args.file.now c.args.from c.args.at c.loop-q.q c.loop-q.invariant refl refl
