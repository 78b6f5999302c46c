-- What the tests say together, and sizes that are multiplied.
-- Assumes nothing.
use Prim.Native.Nat.{ℕ, ◌+◌, ◌*◌, ◌/◌, ◌≤◌}
use mathlib.Core.Path.{◌≡◌, sym, ◌∙◌}
use mathlib.Core.Bool.{Bool}
use native.Mathlib.Omega.{arith}
use native.Mathlib.Nat.{mul-le-mul}
use Rattle.spec.specs.declared.Settings.{Settings}
use Rattle.spec.specs.declared.Plan.{Plan}
use Rattle.spec.specs.declared.Room.{Room}
use Rattle.spec.specs.declared.Way.{Way}
use Rattle.spec.specs.Frame.{settings_in}
use Rattle.spec.specs.Checks.{SettingsLimits}
use Rattle.spec.specs.Calls.{way_of, room_of, lacks}

-- what `way_of`, `needed` and `lacking` said together
pub short-is : (n : ℕ) (k : Settings) (y : Way) (need have : Room) {flag b : Bool} → y ≡ way_of n → need ≡ room_of y k → flag ≡ lacks need have →
    flag ≡ b
    → lacks (room_of (way_of n) k) have ≡ b
short-is n k y need have ey en ef q = rw (← ey, ← en) (sym ef ∙ q)

-- ---- sizes that `needed` multiplies
pub record Products (z : Plan) : Type 0 where
  pub cells : z.levels * z.guides ≤ 262144
  pub words : z.levels * ((z.guides + 63) / 64) ≤ 4096
  pub columns : z.width * z.levels ≤ 1048576
  pub nodes : (2 * z.radius + 1) * (2 * z.radius + 1) ≤ 961

pub products : (z : Plan) → SettingsLimits (settings_in z) → Products z
products z h =
    let side : 2 * z.radius + 1 ≤ 31 = omega (arith, h.radius_high) in
    let few : (z.guides + 63) / 64 ≤ 4 = omega (arith, h.guides_high) in
    record {
      cells = mul-le-mul h.levels_high h.guides_high;
      words = mul-le-mul h.levels_high few;
      columns = mul-le-mul h.width_high h.levels_high;
      nodes = mul-le-mul side side;
    }
