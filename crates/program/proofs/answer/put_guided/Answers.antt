-- `program::answer::put_guided` meets its contract: nothing in kind 1; in kind 2 two lines, each with the same shift count.
-- Assumes nothing.
use Rattle.std.proofs.Common.{refl, sym, ap}
use Rattle.spec.specs.declared.Way.TheVariants.{Joint}
use Rattle.spec.specs.Calls.{way_of}
use Rattle.spec.specs.Program.{columns_word, chain_word}
use Rattle.text.specs.Text.{way_text}
use Rattle.text.proofs.Putting.{none, joined, called, room-first, room_next}
use Rattle.program.proofs.Answering.{shift_count, by-levels, guided-none, guided-both}
use Rattle.program.proofs.answer.put_guided.Goals as goal

pub returns-then-plan-ne2 : goal.returns-then-plan-ne2
returns-then-plan-ne2 c =
    called (sym (guided-none c.args.plan.kind (shift_count Joint c.args.input.now) c.if-plan-ne2.true)) (none _ _)

pub put_way-next-requires : goal.put_way-next-requires
unfolding way_of
put_way-next-requires c =
    let n = shift_count Joint c.args.input.now in
    rw (by-levels c.filter_by-columns.ensures refl)
    (room-first _ _ (way_text columns_word n) (way_text chain_word n) (rw (guided-both c.args.plan.kind n c.if-plan-ne2.false) at c.requires.text_room))

pub put_way-requires : goal.put_way-requires
unfolding way_of
put_way-requires c =
    let n = shift_count Joint c.args.input.now in
    rw (by-levels c.filter_by-chain.ensures refl)
    (room_next (way_text chain_word n) (rw (guided-both c.args.plan.kind n c.if-plan-ne2.false) at c.requires.text_room)
    (called (ap (way_text columns_word) (by-levels c.filter_by-columns.ensures refl)) c.put_way-next.ensures))

pub returns : goal.returns
unfolding way_of
returns c =
    rw (guided-both c.args.plan.kind (shift_count Joint c.args.input.now) c.if-plan-ne2.false)
    (joined (called (ap (way_text columns_word) (by-levels c.filter_by-columns.ensures refl)) c.put_way-next.ensures)
    (called (ap (way_text chain_word) (by-levels c.filter_by-chain.ensures refl)) c.put_way.ensures))
