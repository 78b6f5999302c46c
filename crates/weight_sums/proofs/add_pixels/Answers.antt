-- The pixel's weight is in its block's sum and in the total.
use Rattle.std.proofs.Common.{rules, arith, ◌≤◌, ◌^◌, sym, pos, ◌+ℤ◌}
use Rattle.std.proofs.lemmas.Int.{ints}
use Rattle.pixels.specs.Pixels.{level_in}
use Rattle.pixels.proofs.AdditiveLaws.{pixels-none}
use Rattle.balance.proofs.BalanceLaws.{list-abs, added-up}
use Rattle.weight_sums.specs.Sums.{block_of}
use Rattle.weight_sums.proofs.SumLaws.{added_none, added_next, place_in, sum_low}
use Rattle.weight_sums.proofs.add_pixels.Goals as goal

pub loop-pixel-init : goal.loop-pixel-init
loop-pixel-init c = (added_none _ _ _ _ _, sym (pixels-none ◌+ℤ◌ (pos 0) _ _))

pub slice_copy_out-sums : goal.slice_copy_out-sums
unfolding block_of
slice_copy_out-sums c = place_in (2 ^ c.args.bits) c.requires.0 c.requires.1 c.loop-pixel-test.true c.loop-pixel.invariant.0

pub bounds-sums-block : goal.bounds-sums-block
unfolding block_of
bounds-sums-block c = place_in (2 ^ c.args.bits) c.requires.0 c.requires.1 c.loop-pixel-test.true c.loop-pixel.invariant.0

pub overflow_add-sums : goal.overflow_add-sums
unfolding block_of
overflow_add-sums c =
    let small = sum_low (2 ^ c.args.bits) c.requires.0 c.requires.1 c.loop-pixel-test.true c.loop-pixel.invariant.0 in
    let low = c.requires.0.low c.loop-pixel.pixel-index c.loop-pixel-test.true in
    omega (arith, ints)

pub overflow_add-total : goal.overflow_add-total
overflow_add-total c =
    let small = list-abs c.requires.0 65535 c.loop-pixel.pixel-index (omega arith) in
    let low = c.requires.0.low c.loop-pixel.pixel-index c.loop-pixel-test.true in
    omega (arith, ints)

-- no level is above the total's
pub loop-pixel-preserved : goal.loop-pixel-preserved
unfolding block_of
loop-pixel-preserved c =
    let small = sum_low (2 ^ c.args.bits) c.requires.0 c.requires.1 c.loop-pixel-test.true c.loop-pixel.invariant.0 in
    let total_small = list-abs c.requires.0 65535 c.loop-pixel.pixel-index (omega arith) in
    let low = c.requires.0.low c.loop-pixel.pixel-index c.loop-pixel-test.true in
    let level : level_in c.args.pixels.now c.loop-pixel.pixel-index ≤ 65535 = search rules in
    let total = added-up c.requires.0 65535 c.loop-pixel-test.true level in (
      added_next (2 ^ c.args.bits) c.requires.0 c.requires.1 c.loop-pixel-test.true c.loop-pixel.invariant.0 _ (omega (arith, ints)),
      omega (arith, ints),
    )
