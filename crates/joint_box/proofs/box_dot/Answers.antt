-- `joint_box::box_dot` meets its contract. Assumes nothing.
use Rattle.std.proofs.Common.{◌≡◌, refl, sym, ap, ◌∙◌, ◌+◌, ◌*◌, ◌+ℤ◌, to_z, of_z, w16, w32, arith}
use Rattle.ints.specs.Machine.{read-bounded}
use Rattle.joint_box.specs.Products.{box_sum, centred_part}
use Rattle.joint_box.proofs.BoxLaws.{part_none, part_of, part-within, part_low, sum_low, more-fits, more, dot-centred, restored-fits, restored}
use Rattle.joint_box.proofs.box_dot.Goals as goal

pub loop-p-init : goal.loop-p-init
loop-p-init c = sym (part_none _ _ _)

pub overflow_add-dot : goal.overflow_add-dot
overflow_add-dot c =
    let r = c.requires in
    more-fits (c.loop-p.p * 32) 32 (part-within {k = c.loop-p.p * 32 + 32} (part_of r.0 r.1 r.2) (omega arith) (omega arith)) (omega arith) refl
    c.loop-p.invariant c.part-dot.ensures

pub loop-p-preserved : goal.loop-p-preserved
loop-p-preserved c =
    let r = c.requires in
    more (c.loop-p.p * 32) 32 (part-within {k = (c.loop-p.p + 1) * 32} (part_of r.0 r.1 r.2) (omega arith) (omega arith)) (omega arith) (omega arith)
    c.loop-p.invariant c.part-dot.ensures

pub overflow_add-dot-2 : goal.overflow_add-dot-2
overflow_add-dot-2 c =
    let r = c.requires in
    more-fits (c.loop-p.p * 32) _ (part_of r.0 r.1 r.2) (omega arith) (omega arith) c.loop-p.invariant c.part-dot-2.ensures

-- all m products, and the sum of the m cells
products : (c : goal.After-from)
    → to_z w32 (of_z w32 (to_z w32 c.loop-p.dot-bits +ℤ to_z w32 (of_z w32 c.part-dot-2.result)))
    ≡ centred_part c.args.balance_box.now c.args.row.now 0 c.args.m
products c =
    let r = c.requires in
    more (c.loop-p.p * 32) _ (part_of r.0 r.1 r.2) (omega arith) (omega arith) c.loop-p.invariant c.part-dot-2.ensures

sum : (c : goal.After-from) → c.from.result ≡ box_sum c.args.balance_box.now c.args.m
sum c =
    c.from.ensures ∙ ap (λ z. to_z w16 (of_z w16 z)) c.sum_cells.ensures
    ∙ read-bounded w16 961 (sum_low c.requires.2 c.args.m c.requires.0) tt

pub overflow_add-result : goal.overflow_add-result
overflow_add-result c =
    let r = c.requires in
    restored-fits (products c) (sum c) (part_low (part_of r.0 r.1 r.2)) (sum_low r.2 c.args.m r.0)

pub returns : goal.returns
returns c =
    let r = c.requires in
    restored (products c) (sum c) (part_low (part_of r.0 r.1 r.2)) (sum_low r.2 c.args.m r.0)
    ∙ sym (dot-centred c.args.balance_box.now c.args.row.now c.args.m)
