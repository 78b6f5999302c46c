-- `step_balance` meets its contract: all its numbers stay in 32 bits.
use Rattle.std.proofs.Common.{◌+◌, ◌*◌, ◌≤◌, ◌+ℤ◌, ◌*ℤ◌, nat_abs}
use mir.Syntax.{w32}
use Rattle.ints.specs.Bound.{abs-add-le, abs-mul-le}
use Rattle.ints.specs.Machine.{read-bounded}
use Rattle.joint_search.proofs.find.step_balance.Goals as goal

pub returns : goal.returns
returns c =
    let h = c.requires in
    let few : nat_abs (c.args.by *ℤ c.args.y) ≤ 2 * 62979135 = abs-mul-le c.args.by c.args.y h.1 h.2 in
    let x = read-bounded w32 {z = c.args.x} 62979135 h.0 tt in
    let y = read-bounded w32 {z = c.args.by *ℤ c.args.y} (2 * 62979135) few tt in
    let all = read-bounded w32 {z = c.args.x +ℤ c.args.by *ℤ c.args.y} (62979135 + 2 * 62979135) (abs-add-le c.args.x (c.args.by *ℤ c.args.y) h.0 few) tt in
    rw (x, read-bounded w32 {z = c.args.by} 2 h.1 tt, read-bounded w32 {z = c.args.y} 62979135 h.2 tt, y) all
