-- `weigh` meets its contract. Assumes nothing.
use mathlib.Core.Path.{refl}
use mathlib.Core.List.{List, [], ◌∷◌}
use mir.Syntax.{w64}
use Rattle.ints.specs.Machine.{param_cell}
use Rattle.ints.specs.Auto.{quote, signed_code}
use Rattle.ints.proofs.Auto.{computes! }
use Rattle.balance.proofs.formula.weigh.Goals as goal

pub returns : goal.returns
returns c =
    computes! w64
    (param_cell w64 c.args.slope 235497855 c.requires.0 tt ∷ param_cell w64 c.args.offset 180155859075 c.requires.1 tt
    ∷ param_cell w64 c.args.x 65535 c.requires.2 tt ∷ []) (search signed_code depth 12) (search quote depth 12) tt refl
