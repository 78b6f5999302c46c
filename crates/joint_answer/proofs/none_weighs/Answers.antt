-- `none_weighs` meets its contract.
use Rattle.std.proofs.Common.{◌∙◌, refl, ◌<◌, arith}
use mir.Syntax.{w32}
use mir.Facts.{to_z-of_z}
use Rattle.ints.specs.Machine.{lt-true}
use Rattle.joint_search.proofs.LevelsLaws.{weightless-all, weightless-some}
use Rattle.joint_search.proofs.SearchLaws.{level-low}
use Rattle.joint_answer.proofs.none_weighs.Goals as goal

pub returns-then-level_weight-gt0 : goal.returns-then-level_weight-gt0
returns-then-level_weight-gt0 c =
    weightless-some (λ i h. level-low c.args.sizes.guides c.args.counts.now c.args.row.now i) c.args.cut.0 c.requires.2
    (lt-true refl (to_z-of_z {w = w32} (record { sfits = c.level_weight.type_inv }) ∙ c.level_weight.ensures) c.if-level_weight-gt0.true)

pub returns-then-level_weight-gt0-2 : goal.returns-then-level_weight-gt0-2
returns-then-level_weight-gt0-2 c =
    let w = c.level_weight-in-loop-i in
    let inside : c.loop-i.i < c.args.sizes.levels = omega (arith, c.loop-i-test.true) in
    weightless-some (λ i h. level-low c.args.sizes.guides c.args.counts.now c.args.row.now i) c.loop-i.i inside
    (lt-true refl (to_z-of_z {w = w32} (record { sfits = w.type_inv }) ∙ w.ensures) c.if-level_weight-gt0-2.true)

pub returns : goal.returns
returns c = weightless-all (λ j l. c.loop-i.invariant j (omega (arith, c.loop-i-test.false)))
