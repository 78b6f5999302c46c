-- `frame_weights::built_in` meets its contract below 256, by the constants' rule. Assumes nothing.
use Rattle.frame_weights.proofs.Weights.{built-entry}
use Rattle.frame_weights.proofs.built_in.Goals as goal

pub returns-then-d-lt256 : goal.returns-then-d-lt256
returns-then-d-lt256 c = built-entry _ _ _ c.constants.ensures c.if-d-lt256.true c.apart-d.ensures
