-- `window::pixel::value_at` meets its contract. Assumes nothing.
use native.Mathlib.Omega.{arith}
use mathlib.Core.Path.{◌∙◌}
use Rattle.window.proofs.PixelLaws.{place-small, value_in}
use Rattle.spec.proofs.Plans.{facts}
use Rattle.window.proofs.pixel.value_at.Goals as goal

pub overflow_mul-q : goal.overflow_mul-q
overflow_mul-q c = omega (arith, place-small c.requires.planned c.requires.q_bound)

pub overflow_add-plan : goal.overflow_add-plan
overflow_add-plan c = omega (arith, value_in c.requires.planned c.requires.q_bound, c.well_formed)

pub be16-requires : goal.be16-requires
be16-requires c = value_in c.requires.planned c.requires.q_bound

pub returns : goal.returns
returns c = c.be16.ensures ∙ (facts c.requires.planned).level_is c.args.q
