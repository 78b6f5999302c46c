-- Over the ramp the coefficients give the weights.
use Rattle.std.proofs.Common.{arith, rules, w64}
use Rattle.std.proofs.lemmas.Int.{to_z-of_z}
use Rattle.window.proofs.PixelLaws.{guides_high}
use Rattle.balance.proofs.BalanceLaws.{ramp-weighs}
use Rattle.balance.proofs.guided_formula.Goals as goal

pub ramp-requires : goal.ramp-requires
ramp-requires c = let high = guides_high c.requires.planned.0 in (omega arith, high)

pub returns : goal.returns
returns c =
    let a = c.requires.planned in
    let known = c.of_window-coefficients.ensures in (
      ramp-weighs a.0 a.1 a.2 a.3 c.ramp.ensures.0 known.0 known.1
          (to_z-of_z w64 _ (search rules)) (to_z-of_z w64 _ (search rules)),
      search rules,
    )
