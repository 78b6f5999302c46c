-- `frame_limits::product` meets its contract. Assumes nothing.
use mathlib.Core.Path.{refl}
use Prim.Native.Nat.{ℕ, ◌*◌, ◌≤◌, ◌<◌}
use native.Mathlib.Nat.{mul-le-mul}
use native.Mathlib.Omega.{arith}
use Rattle.frame_limits.proofs.product.Goals as goal

-- a product of two 16-bit numbers
product-below : {a b : ℕ} → a < 65536 → b < 65536 → a * b < 4294967296
product-below {a} {b} p q =
    let h : a * b ≤ 65535 * 65535 = mul-le-mul {n₁ = a} {m₁ = b} {n₂ = 65535} {m₂ = 65535} (omega arith) (omega arith) in
    omega arith

pub overflow_mul-result : goal.overflow_mul-result
overflow_mul-result c = record { fits = (let h = product-below c.ranges.a.fits c.ranges.b.fits in omega arith) }

pub returns : goal.returns
returns c = (refl, product-below c.ranges.a.fits c.ranges.b.fits)
