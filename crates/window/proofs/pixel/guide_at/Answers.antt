-- `window::pixel::guide_at` meets its contract. Assumes nothing.
use native.Mathlib.Omega.{arith}
use mathlib.Core.Path.{◌∙◌}
use Rattle.window.proofs.PixelLaws.{place-small, guide-in}
use Rattle.spec.proofs.Plans.{facts}
use Rattle.window.proofs.pixel.guide_at.Goals as goal

pub overflow_mul-q : goal.overflow_mul-q
overflow_mul-q c = omega (arith, place-small c.requires.planned c.requires.q_bound)

pub overflow_add-plan : goal.overflow_add-plan
overflow_add-plan c = omega (arith, guide-in c.requires.planned c.requires.q_bound, c.well_formed)

pub guide-requires : goal.guide-requires
guide-requires c = guide-in c.requires.planned c.requires.q_bound

pub returns : goal.returns
returns c = c.guide.ensures ∙ (facts c.requires.planned).guide-is c.args.q
