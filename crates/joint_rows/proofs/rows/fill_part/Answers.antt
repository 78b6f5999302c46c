-- `fill_part` meets its contract: the bytes copied, and each number's two exchanged.
use Rattle.std.proofs.Common.{◌∙◌, refl, ap, ◌+◌, ◌*◌, ◌<◌, get_or, arith}
use Rattle.big_endian_part.specs.Part.{exchanged}
use Rattle.big_endian_part.proofs.PartLaws.{made-next, low-first, plane-on}
use Rattle.joint_rows.proofs.RowLaws.{swapped}
use Rattle.joint_rows.proofs.rows.fill_part.Goals as goal

pub loop-k-preserved : goal.loop-k-preserved
loop-k-preserved c =
    let b = c.args.file.now in
    let small : get_or c.copy_low_first.new.part c.loop-k.k 0 < 65536 = omega (arith, c.loop-k-test.element_fits.fits) in
    made-next (c.args.from + c.loop-k.k) _ refl (omega arith)
    (c.swap_bytes.ensures ∙ swapped _ small ∙ ap exchanged (c.copy_low_first.ensures.is c.loop-k.k (omega arith) (omega arith))
    ∙ low-first b (λ i. omega (arith, c.type_inv.file i)) (c.args.first + 2 * c.args.from) c.loop-k.k
    ∙ plane-on b c.args.first c.args.from c.loop-k.k)
    c.loop-k.invariant
