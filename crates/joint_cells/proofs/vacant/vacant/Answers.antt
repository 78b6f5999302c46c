-- `vacant` meets its contract: the block's words are among those of the levels.
use Rattle.std.proofs.Common.{◌≡◌, ◌+◌, arith}
use native.Mathlib.Nat.{mul-le-mul, le_refl, add-mul}
use Rattle.joint_pixel.specs.Store.{words_per}
use Rattle.joint_cells.proofs.vacant.vacant.Goals as goal

pub clear-requires : goal.clear-requires
clear-requires c =
    let h = c.requires.0 in
    let k = words_per c.args.m in
    let e : c.div_ceil-k.result ≡ k = omega arith in
    let all = mul-le-mul {n₁ = c.args.from + 16} {m₁ = k} {n₂ = c.args.l} {m₂ = k} c.requires.1 (le_refl k) in
    rw e (omega (arith, all, add-mul c.args.from 16 k, h.words))
