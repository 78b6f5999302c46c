-- `with_file` meets its contract. Assumes nothing.
use mathlib.Core.Path.{ap}
use native.Mathlib.Omega.{arith}
use Rattle.spec.specs.declared.Room.{Room}
use Rattle.cameras_checks.proofs.Reading.{cells_low}
use Rattle.cameras_checks.proofs.with_file.Goals as goal

-- both stores' bounds are listed, so that one in the other's place is refused by what `with_file` promises
pub overflow_add-result : goal.overflow_add-result
overflow_add-result c =
    let e = c.needed-room.ensures in
    let low = cells_low _ c.requires.0 in
    omega (arith, ap (λ (r : Room). r.counts) e, ap (λ (r : Room). r.words) e, c.requires.1.counts, low.0, low.1)

pub overflow_add-result-2 : goal.overflow_add-result-2
overflow_add-result-2 c =
    let e = c.needed-room.ensures in
    let low = cells_low _ c.requires.0 in
    omega (arith, ap (λ (r : Room). r.counts) e, ap (λ (r : Room). r.words) e, c.requires.1.words, low.0, low.1)
