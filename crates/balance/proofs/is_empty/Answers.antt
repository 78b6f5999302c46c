-- `is_empty` meets its contract: no pixel is counted. Assumes nothing.
use mathlib.Core.Path.{refl}
use Rattle.balance.proofs.is_empty.Goals as goal

pub returns : goal.returns
returns c = refl
