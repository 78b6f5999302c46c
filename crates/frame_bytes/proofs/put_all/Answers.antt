-- `frame_bytes::put_all` meets its contract: the place of one more number is where those before it end. Assumes nothing.
use Rattle.std.proofs.Common.{arith, refl}
use Rattle.spec.specs.Bytes.{all16}
use Rattle.frame_bytes.proofs.Stores.{all-again}
use Rattle.frame_bytes.proofs.put_all.Goals as goal

pub loop-k-init : goal.loop-k-init
unfolding all16
loop-k-init c = refl

pub loop-k-preserved : goal.loop-k-preserved
loop-k-preserved c = all-again _ _ _ _ c.loop-k-test.true c.loop-k.invariant c.put16.ensures (omega arith)
