-- How few pixels a file that passes the program's checks has.
-- Assumes nothing.
use Prim.Native.Nat.{ℕ, ◌+◌, ◌*◌, ◌≤◌}
use mathlib.Core.List.{List}
use native.Mathlib.Omega.{arith}
use lib.ListN.{length}
use Rattle.spec.specs.declared.Plan.{Plan}
use Rattle.spec.specs.Frame.{frame_of, pixels}
use Rattle.spec.proofs.Plans.{facts}
use Rattle.program_checks.specs.Admitted.{Admitted}

pub pixels-few : {b : List ℕ} {z : Plan} → Admitted b z → pixels (frame_of b).set ≤ 8192
pixels-few {b} {z} a =
    let f = facts a.planned in
    let h : z.value + 2 * (z.width * z.height) ≤ length b = f.value-last in
    let g : z.value + 2 * ((frame_of b).set.width * (frame_of b).set.height) ≤ length b = rw (f.width, f.height) at h in
    omega (arith, g, a.size)
