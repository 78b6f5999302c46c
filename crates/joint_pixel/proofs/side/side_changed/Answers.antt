-- Assumes nothing.
use Rattle.std.proofs.Common.{◌≡◌, sym, ◌∙◌, pos, ◌+ℤ◌, ◌-ℤ◌, to_z, of_z, arith}
use Rattle.std.proofs.lemmas.Int.{ints}
use mir.Syntax.{w16}
use Rattle.joint_pixel.proofs.SideLaws.{changed-up, changed-down}
use Rattle.joint_pixel.proofs.side.side_changed.Goals as goal

pub returns-then-le-enters : goal.returns-then-le-enters
returns-then-le-enters c =
    let stored : to_z w16 (of_z w16 (to_z w16 (of_z w16 c.args.x) +ℤ pos 1)) ≡ c.args.x +ℤ pos 1 = omega (arith, ints) in
    stored ∙ sym (changed-up c.args.enters c.args.cut.0 c.args.level.0 c.args.x c.le.result c.le.ensures c.if-le-enters.true)

pub returns-else-le-enters : goal.returns-else-le-enters
returns-else-le-enters c =
    let stored : to_z w16 (of_z w16 (to_z w16 (of_z w16 c.args.x) -ℤ pos 1)) ≡ c.args.x -ℤ pos 1 = omega (arith, ints) in
    stored ∙ sym (changed-down c.args.enters c.args.cut.0 c.args.level.0 c.args.x c.le.result c.le.ensures c.if-le-enters.false)
