-- `from_cut` meets its contract: the balance at the cut point says on which side the answer is.
use Rattle.std.proofs.Common.{refl}
use Rattle.ints.specs.Machine.{lt-true}
use Rattle.joint_search.proofs.LevelsLaws.{climbed-median, descended-median}
use Rattle.joint_search.proofs.SearchLaws.{balance-back, level-low}
use Rattle.joint_blocks.proofs.from_cut.Goals as goal

pub returns-then-short : goal.returns-then-short
returns-then-short c =
    let h = c.requires.searchable in
    let at = c.requires.cut_lt_levels in
    let below = lt-true (balance-back h.0 h.1 c.args.cut.0 c.args.bal at.0 at.1) refl c.if-short.true in
    (climbed-median (λ i h. level-low c.args.sizes.guides c.args.counts.now c.args.row.now i) below c.climb.ensures.0, c.climb.ensures.2)

pub returns-else-short : goal.returns-else-short
returns-else-short c = (
  descended-median (λ i h. level-low c.args.sizes.guides c.args.counts.now c.args.row.now i) c.requires.cut_lt_levels.0 c.descend.ensures.0,
  c.descend.ensures.2,
)
