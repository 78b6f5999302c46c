-- `window::pixel::value_in` meets its contract. Assumes nothing.
use Rattle.std.proofs.Common.{arith}
use Rattle.std.proofs.lemmas.Grind.{common_steps}
use Rattle.window.proofs.PixelLaws.{place-small, plane-in}
use Rattle.window.proofs.pixel.value_in.Goals as goal

pub offset_bounds-plane-q : goal.offset_bounds-plane-q
offset_bounds-plane-q c = omega (arith, place-small c.requires.pictured c.requires.q_bound)

pub bounds-plane-q : goal.bounds-plane-q
bounds-plane-q c = (plane-in c.requires.pictured c.requires.q_bound (λ none. grind (arith, common_steps))).0
