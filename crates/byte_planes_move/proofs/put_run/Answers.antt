-- `put_run` meets its contract. Assumes nothing.
use Rattle.std.proofs.Common.{ℕ, ◌%◌, arith, refl, ap, ◌∙◌}
use Rattle.byte_planes_move.proofs.MoveLaws.{none-put, one-put, first_byte}
use Rattle.byte_planes_move.proofs.put_run.Goals as goal

pub loop-j-init : goal.loop-j-init
loop-j-init c = none-put _ c.args.file.now c.args.from c.args.at

pub loop-j-preserved : goal.loop-j-preserved
loop-j-preserved c =
    let a = c.args in
    one-put a.output.now a.file.now a.from a.at c.loop-j.j c.loop-j.invariant refl
    (ap (λ (v : ℕ). v % 256) (c.copy_low_first.ensures.is c.loop-j.j (omega arith) (omega arith))
    ∙ first_byte a.file.now (λ i. omega (arith, c.type_inv.file i)) a.from c.loop-j.j)
