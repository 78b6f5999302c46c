-- `check_batch` meets its contract. Assumes nothing.
use Rattle.spec.proofs.Outcomes.{same}
use Rattle.cameras_checks.proofs.Batch.{batch-good}
use Rattle.cameras_checks.proofs.check_batch.Goals as goal

pub read_files-requires : goal.read_files-requires
read_files-requires c = let g = batch-good _ _ _ (same c.bad_batch.ensures c.if-bad_batch.false) in (g.few, g.sum)
