-- `icemedian::main` meets its contract: the text lies within the buffer, since the buffer begins with it. Assumes nothing.
use mathlib.Core.Path.{ap}
use Prim.Native.Nat.{◌≤◌}
use native.Mathlib.Omega.{arith}
use lib.ListN.{length, length-append}
use Rattle.icemedian.proofs.main.Goals as goal

pub slice_bounds-out-end : goal.slice_bounds-out-end
slice_bounds-out-end c =
    let h = simp length-append at (ap length c.respond-length.ensures.out_after) in omega (arith, h, c.respond-length.ensures.value)
