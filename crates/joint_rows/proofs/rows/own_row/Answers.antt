-- `own_row` meets its contract: 64 numbers at a time, then the rest.
use Rattle.std.proofs.Common.{◌≡◌, ◌∙◌, ◌+◌, ◌*◌, ◌/◌, ◌%◌, ◌≤◌, arith}
use Rattle.spec.proofs.Plans.{facts}
use Rattle.window.proofs.PixelLaws.{guides-range}
use Rattle.big_endian_part.proofs.PartLaws.{made_more}
use Rattle.joint_rows.proofs.RowLaws.{row-small, row_inside, row-own}
use Rattle.joint_rows.proofs.rows.own_row.Goals as goal

pub overflow_mul-first : goal.overflow_mul-first
overflow_mul-first c = let h = c.requires in omega (arith, row-small h.0 h.1 h.2)

pub overflow_mul-first-2 : goal.overflow_mul-first-2
overflow_mul-first-2 c = let h = c.requires in omega (arith, row-small h.0 h.1 h.2)

pub overflow_add-first : goal.overflow_add-first
overflow_add-first c = let h = c.requires in omega (arith, row-small h.0 h.1 h.2, row_inside h.0 h.1 h.2, (facts h.0).value-last)

pub fill_part-requires : goal.fill_part-requires
fill_part-requires c =
    let h = c.requires in
    let few = (guides-range h.0).1 in
    let left : 64 * c.loop-i.i + 64 ≤ c.args.plan.guides = omega arith in
    (omega arith, omega (arith, few), omega (arith, row_inside h.0 h.1 h.2), c.loop-i.invariant.long ∙ h.3)

pub fill_part-requires-2 : goal.fill_part-requires-2
fill_part-requires-2 c =
    let h = c.requires in
    let few = (guides-range h.0).1 in
    let all : 64 * (c.args.plan.guides / 64) + c.args.plan.guides % 64 ≡ c.args.plan.guides = omega arith in
    (omega arith, omega (arith, few), omega (arith, row_inside h.0 h.1 h.2), c.loop-i.invariant.long ∙ h.3)

pub returns : goal.returns
returns c =
    let h = c.requires in
    row-own h.0 h.1 h.2 (λ i. omega (arith, c.type_inv.file i)) h.3 (omega arith) (made_more (omega arith) c.loop-i.invariant c.fill_part-2.ensures)
