-- `joint_box::part` meets its contract. Assumes nothing.
use Rattle.std.proofs.Common.{◌≡◌, [], ◌∷◌, refl, sym, ap, ◌∙◌, ◌+◌, ◌<◌, ◌*ℤ◌, length, length-append, to_z, of_z, w32, arith}
use Rattle.std.proofs.lemmas.Slice.Zip.{zip_turn}
use Rattle.joint_box.specs.Products.{centred_part}
use Rattle.joint_box.proofs.BoxLaws.{part_none, part-within, turn-low, product, more-fits, more}
use Rattle.joint_box.proofs.part.Goals as goal

-- this turn's pair is one of the n, and its product is the part that it is
pair : (c : goal.After-from-in-loop-cell) → let k = length c.loop-cell.yielded in
    (k < c.args.n) × (to_z w32 (of_z w32 c.from.result) *ℤ to_z w32 (of_z w32 c.from-in-loop-cell.result)
    ≡ centred_part c.args.balance_box.now c.args.row.now (c.args.from + k) 1)
pair c =
    let at = c.into_iter-cell-iterator in
    let first = ap (λ z. z.a.rest.now) at.ensures.into_iter_gives ∙ ap (λ i. i.rest.now) c.zip-cell-items.ensures.first ∙ c.iter.ensures.rest in
    let second = ap (λ z. z.b.rest.now) at.ensures.into_iter_gives ∙ c.zip-cell-items.ensures.second.0 in
    let turn = zip_turn _ _ _ at.result c.loop-cell.cell-iterator c.next.new.self c.next.result first second c.loop-cell.yielded_by _ c.in-Some.is c.next.ensures.steps in
    (turn-low c.requires _ turn, product c.requires _ turn c.from.ensures c.centred.ensures c.from-in-loop-cell.ensures)

pub loop-cell-init : goal.loop-cell-init
loop-cell-init c = sym (part_none _ _ _)

pub overflow_add-sum : goal.overflow_add-sum
overflow_add-sum c =
    let now = pair c in
    let k = length c.loop-cell.yielded in
    more-fits k 1 (part-within {k = k + 1} c.requires (omega arith) (omega (arith, now.0))) refl refl c.loop-cell.invariant now.1

pub loop-cell-preserved : goal.loop-cell-preserved
loop-cell-preserved c =
    let now = pair c in
    let e = length-append c.loop-cell.yielded ((c.in-Some.cell, c.in-Some.weight) ∷ []) in
    more (length c.loop-cell.yielded) 1 (part-within c.requires (omega arith) (omega (arith, now.0, e))) refl e c.loop-cell.invariant now.1
