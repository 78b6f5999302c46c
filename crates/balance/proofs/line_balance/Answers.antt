-- The sum with a pixel's weight more, or less where its level is above the given one.
use Rattle.std.proofs.Common.{arith, ◌<◌, ◌≤◌, sym, ◌∙◌, pos, ◌+ℤ◌}
use Rattle.std.proofs.lemmas.Int.{ints}
use Rattle.std.proofs.lemmas.Grind.{common_steps}
use Rattle.std.proofs.lemmas.Map.Keys.{le_from_is_le}
use Rattle.pixels.specs.Pixels.{level_in}
use Rattle.pixels.proofs.AdditiveLaws.{pixels-none}
use Rattle.balance.proofs.BalanceLaws.{list-abs, added-up, added-down}
use Rattle.balance.proofs.line_balance.Goals as goal
use Rattle.balance.proofs.line_balance.Goals.{then-le, else-le}

pub loop-pixel-init : goal.loop-pixel-init
loop-pixel-init c = sym (pixels-none ◌+ℤ◌ (pos 0) _ _)

pub overflow_add-sum : goal.overflow_add-sum
overflow_add-sum c =
    let small = list-abs c.requires c.args.top.0 c.loop-pixel.pixel-index (omega arith) in
    let low = c.requires.low c.loop-pixel.pixel-index c.loop-pixel-test.true in
    omega (arith, ints)

pub overflow_sub-sum : goal.overflow_sub-sum
overflow_sub-sum c =
    let small = list-abs c.requires c.args.top.0 c.loop-pixel.pixel-index (omega arith) in
    let low = c.requires.low c.loop-pixel.pixel-index c.loop-pixel-test.true in
    omega (arith, ints)

pub loop-pixel-preserved : goal.loop-pixel-preserved
loop-pixel-preserved c =
    let small = list-abs c.requires c.args.top.0 c.loop-pixel.pixel-index (omega arith) in
    let low = c.requires.low c.loop-pixel.pixel-index c.loop-pixel-test.true in
    elim c.if-le.branch [
      | then-le w ↦
          let here : level_in c.args.pixels.now c.loop-pixel.pixel-index ≤ c.args.top.0 =
          rw c.level.ensures at (le_from_is_le c.level.result.0 c.args.top.0 (sym c.le.ensures ∙ w.if-le.true)) in
          let sum = added-up c.requires c.args.top.0 c.loop-pixel-test.true here in omega (arith, ints)
      | else-le w ↦
          let above : c.args.top.0 < level_in c.args.pixels.now c.loop-pixel.pixel-index = grind (arith, common_steps) in
          let sum = added-down c.requires c.args.top.0 c.loop-pixel-test.true above in omega (arith, ints)
    ]
