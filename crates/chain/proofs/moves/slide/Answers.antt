-- `chain::moves::slide` meets its contract.
-- Assumes nothing.
use Rattle.chain.proofs.MoveLaws.{slide-insertable, slide-slid}
use Rattle.chain.proofs.moves.slide.Goals as goal

pub merge_line-requires : goal.merge_line-requires
merge_line-requires c = slide-insertable c.merge_line-kept.ensures c.requires

pub returns : goal.returns
returns c = slide-slid c.merge_line-kept.ensures c.merge_line.ensures
