-- The levels passed fall short, by what `HalfLaws` says of one level more and of a block without a weight; all together they do not.
use Rattle.std.proofs.Common.{arith, ◌∙◌, sym, ap, suc, w64, add-one}
use Rattle.std.proofs.lemmas.Int.{ints, to_z-of_z}
use Rattle.explain_half.specs.Half.{up_to}
use Rattle.explain_half.proofs.HalfLaws.{up_to-none, block-next, short_none, short-next, short-block, added}
use Rattle.explain_half.proofs.reach_half.Goals as goal

pub loop-i-init : goal.loop-i-init
loop-i-init c = let fits = c.ranges.total in (omega arith, sym (up_to-none _), rw (to_z-of_z w64 _ fits) (short_none _ _ c.requires.positive))

pub loop-i-preserved-then-vacant : goal.loop-i-preserved-then-vacant
loop-i-preserved-then-vacant c =
    let block = c.vacant.ensures c.if-vacant.true in
    (omega (arith, block.inside), c.loop-i.invariant.1 ∙ sym (block-next block), short-block block c.loop-i.invariant.2)

pub returns-then-total-reached : goal.returns-then-total-reached
returns-then-total-reached c =
    let reached = added c.requires c.loop-i-test.true c.loop-i.invariant.1 in
    let small = c.requires.small (suc c.loop-i.i) c.loop-i-test.true in
    record {
      inside = c.loop-i-test.true;
      below = c.loop-i.invariant.1;
      reached = reached;
      reaches = grind (arith, ints);
      lowest = λ j l. rw (to_z-of_z w64 _ c.ranges.total) at (c.loop-i.invariant.2 (suc j) l);
    }

pub loop-i-preserved : goal.loop-i-preserved
loop-i-preserved c =
    let reached = added c.requires c.loop-i-test.true c.loop-i.invariant.1 in
    let small = c.requires.small (suc c.loop-i.i) c.loop-i-test.true in
    (omega arith, reached ∙ ap (up_to _) (sym (add-one c.loop-i.i)), short-next _ c.loop-i.invariant.2 (grind (arith, ints)))
