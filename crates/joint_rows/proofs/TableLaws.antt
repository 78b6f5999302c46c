-- Laws of a frame's table: where a weight of its own lies.
-- Assumes nothing.
use mathlib.Core.Path.{◌≡◌, refl, sym, subst}
use mathlib.Core.Bool.{Bool, true, false}
use mathlib.Core.List.{List}
use Prim.Native.Nat.{ℕ, ◌+◌, ◌*◌, ◌≤◌, ◌<◌}
use native.Mathlib.Nat.{mul-le-mul}
use native.Mathlib.Omega.{arith}
use lib.Arith.{digits_lt}
use lib.Dec.{eqb}
use lib.ListN.{length}
use Rattle.spec.specs.declared.Plan.{Plan}
use Rattle.std.specs.Prelude.{if◌then◌else◌}
use Rattle.spec.specs.Base.{distance}
use Rattle.spec.specs.Frame.{table_size, settings_of, trailer_of, own_weights, plan_of}
use Rattle.spec.specs.Checks.{Pictured}
use Rattle.spec.proofs.Plans.{facts}
use Rattle.window.proofs.PixelLaws.{guides-range}

-- ---- one weight of an accepted file
own-cases : (c : Bool) (n : ℕ) → ((if c then 0 else n) ≡ 0 → ⊥) → (if c then 0 else n) ≡ n
own-cases true n h = absurd (h refl)
own-cases false n h = refl

own-count : (b : List ℕ) → ((plan_of b).weights ≡ 0 → ⊥) → (plan_of b).weights ≡ (plan_of b).guides * (plan_of b).guides
unfolding plan_of own_weights trailer_of
own-count b h = own-cases (eqb (trailer_of b).table 0) (table_size (settings_of b)) h

module _ {b vs : List ℕ} {z : Plan} (pl : Pictured b vs z) where
  -- the constants reach as far as two guides can be apart
  pub apart_low : {f g d : ℕ} → f < z.guides → g < z.guides → d ≡ distance f g → d < 256
  apart_low hf hg e = omega (arith, (guides-range pl).1)

  count-within : z.guides * z.guides ≤ 65536
  count-within = mul-le-mul {n₂ = 256} (guides-range pl).1 (guides-range pl).1

  weights-are : (z.weights ≡ 0 → ⊥) → z.weights ≡ z.guides * z.guides
  weights-are = subst (λ (q : Plan). (q.weights ≡ 0 → ⊥) → q.weights ≡ q.guides * q.guides) (sym pl.plan) (own-count b)

  -- a weight's place, and that the file has it
  pub weight-place : (z.weights ≡ 0 → ⊥) → (f g : ℕ) → f < z.guides → g < z.guides →
      (f * z.guides + g < 65536) × (z.table + 2 * (f * z.guides + g) + 1 < length b)
  weight-place n f g hf hg =
      let h : f * z.guides + g < z.guides * z.guides = digits_lt hf hg in
      (omega (arith, count-within), omega (arith, (facts pl).table-last, weights-are n))

  -- so also where the two guides change places
  pub weight-places : (z.weights ≡ 0 → ⊥) → (f g : ℕ) → f < z.guides → g < z.guides →
      ((f * z.guides + g < 65536) × (z.table + 2 * (f * z.guides + g) + 1 < length b))
      × ((g * z.guides + f < 65536) × (z.table + 2 * (g * z.guides + f) + 1 < length b))
  weight-places n f g hf hg = (weight-place n f g hf hg, weight-place n g f hg hf)
