-- The bridge from ℤ to `omega`, which reads natural numbers only. `ints` turns orders and equations of integers into those of their
-- parts, in the facts at hand and in the goal; the parts of each sum, difference and product that a fact or the goal has are
-- given by name: `omega (arith, ints, add_parts x y, mul-parts (pos 2) u)`. Assumes nothing.
use Rattle.std.specs.Prelude.{◌≡◌, ℤ, pos, ◌+ℤ◌, ◌-ℤ◌, ◌*ℤ◌, ◌≤ℤ◌, ◌<ℤ◌}
use Rattle.std.proofs.Common.{arith}
use Rattle.ints.specs.Order.{le-nat, nat_le, lt-nat, nat_lt, eq-nat, nat_eq, add_parts, diff-parts, mul-parts}

pub ruleset ints = (le-nat, nat_le, lt-nat, nat_lt, eq-nat, nat_eq)

-- ---- tests: a sum and a multiple, a difference, an equation
test_sum : (u t w : ℤ) → t ≤ℤ (pos 2 *ℤ u) → (u +ℤ w) ≤ℤ t → w ≤ℤ u
test_sum u t w h l = omega (arith, ints, add_parts u w, mul-parts (pos 2) u)

test-difference : (u t w : ℤ) → t ≡ u -ℤ w → pos 0 <ℤ w → t <ℤ u
test-difference u t w h l = omega (arith, ints, diff-parts u w)

test-equation : (u t : ℤ) → t ≤ℤ u → u ≤ℤ t → t ≡ u
test-equation u t h l = omega (arith, ints)
