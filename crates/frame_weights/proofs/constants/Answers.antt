-- `frame_weights::constants` meets its contract. The rule of all 256 constants is one test that antt computes. Assumes nothing.
use Rattle.std.proofs.Common.{refl}
use Rattle.frame_weights.proofs.Weights.{tested}
use Rattle.frame_weights.proofs.constants.Goals as goal

pub returns : goal.returns
returns c = tested refl tt
