-- The cell's place is known, and the word's with its bit. Assumes nothing.
use Rattle.std.proofs.Common.{◌<◌, length, sym, get_or-set_same}
use Rattle.joint_pixel.specs.Store.{cell_at}
use Rattle.joint_pixel.proofs.RepLaws.{enters-counts, enters-words, leaves-counts, leaves-words}
use Rattle.joint_pixel.proofs.cell.change_pixel.Goals as goal

pub returns-then-enters-clause-counts_after : goal.returns-then-enters-clause-counts_after
returns-then-enters-clause-counts_after c =
    rw c.cell_at-at.ensures (sym (enters-counts c.args.enters c.args.m c.args.level.0 c.args.guide.0 c.args.counts.now c.args.words.now c.if-enters.true))

pub returns-then-enters-clause-words_after : goal.returns-then-enters-clause-words_after
returns-then-enters-clause-words_after c =
    rw (c.with_bit.ensures, c.word_at-w.ensures, c.bit_at-b.ensures)
    (sym (enters-words c.args.enters c.args.m c.args.level.0 c.args.guide.0 c.args.counts.now c.args.words.now c.if-enters.true))

pub returns-else-enters-clause-counts_after : goal.returns-else-enters-clause-counts_after
returns-else-enters-clause-counts_after c =
    rw c.cell_at-at.ensures (sym (leaves-counts c.args.enters c.args.m c.args.level.0 c.args.guide.0 c.args.counts.now c.args.words.now c.if-enters.false))

pub returns-else-enters-clause-words_after : goal.returns-else-enters-clause-words_after
returns-else-enters-clause-words_after c =
    let inside : cell_at c.args.m c.args.level.0 c.args.guide.0 < length c.args.counts.now = c.requires.place.cell in
    rw (c.without_bit.ensures, c.word_at-w.ensures, c.bit_at-b.ensures, c.emptied.ensures, c.cell_at-at.ensures, get_or-set_same)
    (sym (leaves-words c.args.enters c.args.m c.args.level.0 c.args.guide.0 c.args.counts.now c.args.words.now c.if-enters.false))
