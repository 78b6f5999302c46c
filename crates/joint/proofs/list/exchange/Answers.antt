-- `exchange` meets its contract. Assumes nothing.
use Rattle.joint.proofs.PixelLaws.{leave-counts, counts-exchanged, enter-box, leave-box, box-exchanged}
use Rattle.joint.proofs.list.exchange.Goals as goal

pub change_pixels-requires : goal.change_pixels-requires
change_pixels-requires c = (c.requires.0.entering, enter-box c.args.entering.now c.args.leaving.now c.requires.1)

pub change_pixels-requires-2 : goal.change_pixels-requires-2
change_pixels-requires-2 c =
    let x = c.requires.0 in (
      leave-counts x (c.change_pixels.ensures.counts_passed x.entering),
      leave-box c.args.entering.now c.args.leaving.now c.requires.1 c.change_pixels.ensures.box_passed,
    )

pub returns : goal.returns
returns c =
    record {
      counts_exchanged = λ x. counts-exchanged x (c.change_pixels.ensures.counts_passed x.entering) c.change_pixels-2.ensures.counts_passed (λ k. (c.type_inv.words k).fits);
      box_exchanged = box-exchanged c.args.entering.now c.args.leaving.now c.requires.1 c.change_pixels.ensures.box_passed c.change_pixels-2.ensures.box_passed;
    }
