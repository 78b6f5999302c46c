-- `bits_of_file` meets its contract. Assumes nothing.
use Rattle.std.proofs.Common.{◌≡◌, ℕ, ◌<◌, arith, get_or, ap, sym, ◌∙◌}
use Rattle.big_endian_part.specs.Part.{low_first, exchanged}
use Rattle.big_endian_part.proofs.PartLaws.{low-first}
use Rattle.spec.specs.Checks.{judged}
use Rattle.spec.specs.Frame.{plane}
use Rattle.frame_below.proofs.BelowLaws.{most-next, bits_left, bits-right, low-first-small, judged-exchanged}
use Rattle.frame_below.proofs.bits_of_file.Goals as goal

pub loop-number-preserved : goal.loop-number-preserved
loop-number-preserved c =
    let a = c.args in
    let b = a.file.now in
    let j = c.loop-number.number-index in
    let bytes : (i : ℕ) → get_or b i 0 < 256 = λ i. omega (arith, c.type_inv.file i) in
    let number : judged a.values (plane b a.offset j) ≡ exchanged c.judged-bits.result =
    ap (judged a.values) (sym (low-first b bytes a.offset j))
    ∙ judged-exchanged a.values (low_first b a.offset j) (low-first-small b bytes a.offset j)
    ∙ ap exchanged (ap (judged a.values) (sym (c.copy_low_first.ensures.is j (omega arith) (omega arith))) ∙ sym c.judged-bits.ensures) in
    most-next (λ i. judged a.values (plane b a.offset i)) c.loop-number.invariant (bits_left c.loop-number.bits c.judged-bits.result)
    (rw number (bits-right c.loop-number.bits c.judged-bits.result))
