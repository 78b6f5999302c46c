-- `levels::tally::list_tally` meets its contract. Assumes nothing.
use Rattle.std.proofs.Common.{◌≡◌}
use borrow.Author.Tests.{lt-ltb, le-ltb}
use Rattle.pixels.specs.Pixels.{level_in, guide_in}
use Rattle.levels.specs.Tally.{one_below, guide_below}
use Rattle.levels.proofs.ListTallyLaws.{tally_none, tally-next}
use Rattle.levels.proofs.tally.list_tally.Goals as goal
use Rattle.levels.proofs.tally.list_tally.Goals.{then-below, else-below, then-below-2, else-below-2}

pub loop-pixel-init : goal.loop-pixel-init
loop-pixel-init c = tally_none _ _

pub loop-pixel-preserved : goal.loop-pixel-preserved
loop-pixel-preserved c =
    let p = c.args.pixels.now in
    let k = c.loop-pixel.pixel-index in
    let one : c.if-below.count ≡ one_below c.args.end (level_in p k) (guide_in p k) =
    elim c.if-below.branch [
      | then-below w ↦ rw (lt-ltb (level_in p k) c.args.end w.if-below.true) w.count-is
      | else-below w ↦ rw (le-ltb (level_in p k) c.args.end w.if-below.false) w.count-is
    ] in
    let guide : c.if-below-2.sum ≡ guide_below c.args.end (level_in p k) (guide_in p k) =
    elim c.if-below-2.branch [
      | then-below-2 w ↦ rw (lt-ltb (level_in p k) c.args.end w.if-below-2.true) w.sum-is
      | else-below-2 w ↦ rw (le-ltb (level_in p k) c.args.end w.if-below-2.false) w.sum-is
    ] in
    tally-next c.requires c.loop-pixel-test.true one guide c.loop-pixel.invariant
