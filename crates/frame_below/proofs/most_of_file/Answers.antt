-- `most_of_file` meets its contract. Assumes nothing.
use Rattle.std.proofs.Common.{◌≡◌, arith}
use Rattle.std.proofs.lemmas.Grind.{common_steps}
use Rattle.spec.specs.Frame.{plane}
use Rattle.big_endian_part.specs.Part.{low_first, exchanged}
use Rattle.big_endian_part.proofs.PartLaws.{low-first}
use Rattle.frame_below.proofs.most_of_file.Goals as goal

pub loop-number-preserved : goal.loop-number-preserved
loop-number-preserved c =
    let a = c.args in
    let b = a.file.now in
    let here : exchanged (low_first b a.offset c.loop-number.number-index) ≡ plane b a.offset c.loop-number.number-index =
    low-first b (λ i. omega (arith, c.type_inv.file i)) a.offset c.loop-number.number-index in
    grind (arith, common_steps, here)
