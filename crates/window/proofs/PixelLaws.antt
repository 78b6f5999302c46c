-- Where a plan's pixels stand in its file or in a plane in place of its values, and how large their numbers are.
-- Assumes nothing.
use mathlib.Core.Path.{◌≡◌, refl}
use mathlib.Core.Bool.{false}
use mathlib.Core.List.{List, [], ◌∷◌}
use Prim.Native.Nat.{ℕ, ◌+◌, ◌*◌, ◌≤◌, ◌<◌}
use native.Mathlib.Omega.{arith}
use lib.Dec.{eqb}
use lib.ListN.{length, get_or}
use Rattle.spec.specs.declared.Plan.{Plan}
use Rattle.spec.specs.Frame.{no_reading, settings_of, pixel_level, pixel_guide, frame_of, value_of}
use Rattle.spec.specs.Checks.{PlaneFits, Pictured}
use Rattle.spec.proofs.Limits.{value-live, guide-below}
use Rattle.spec.proofs.Plans.{facts, plane-small}
use Rattle.window.specs.Line.{PlanLimits}

module _ {b vs : List ℕ} {z : Plan} (pl : Pictured b vs z) where
  pub plan-limits : PlanLimits z
  plan-limits =
      let f = facts pl in
      let k = f.limits.sound in
      record {
        width = omega (arith, f.width, k.width_high);
        height = omega (arith, f.height, k.height_high);
        radius =
            omega (arith, f.radius, k.radius_high);
      }

  module _ {q : ℕ} (h : q < z.width * z.height) where
    pub place-small : q < 262144
    place-small = omega (arith, plane-small pl)

    pub value_in : z.value + 2 * q + 1 < length b
    value_in = omega (arith, (facts pl).value-last)

    pub guide-in : z.guide + 2 * q + 1 < length b
    guide-in = omega (arith, (facts pl).guide-last)

    in-pixels : q < (settings_of b).width * (settings_of b).height
    unfolding frame_of
    in-pixels = let f = facts pl in rw (f.width, f.height) at h

    pub level-low : eqb (value_of b vs q) no_reading ≡ false → value_of b vs q < z.levels
    unfolding frame_of
    level-low e = rw (facts pl).levels (value-live b pl.accepts vs pl.fits q in-pixels e)

    -- of a plane that is there: its number, and that it has it
    pub plane-in : (length vs ≡ 0 → ⊥) → (q < length vs) × (get_or vs q 0 ≡ value_of b vs q)
    plane-in = go vs pl.fits
      where
        go : (v : List ℕ) → PlaneFits b v → (length v ≡ 0 → ⊥) → (q < length v) × (get_or v q 0 ≡ value_of b v q)
        go [] fit n = absurd (n refl)
        go (v ∷ vs) fit n = (rw fit.long in-pixels, refl)

    -- of none: docs/TRACE.md names this
    pub plane-none : length vs ≡ 0 → pixel_level b q ≡ value_of b vs q
    plane-none = go vs
      where
        go : (v : List ℕ) → length v ≡ 0 → pixel_level b q ≡ value_of b v q
        go [] e = refl
        go (v ∷ vs) e = absurd (omega arith)

    pub guide-low : pixel_guide b q < z.guides
    unfolding frame_of
    guide-low = rw (facts pl).guides (guide-below b pl.accepts q in-pixels)

  pub guides_high : z.guides ≤ 256
  guides_high = let f = facts pl in omega (arith, f.guides, f.limits.sound.guides_high)

  pub guides-range : (1 ≤ z.guides) × (z.guides ≤ 256)
  guides-range = let f = facts pl in (omega (arith, f.guides, f.limits.sound.guides_low), guides_high)

  pub levels_high : z.levels ≤ 1024
  levels_high = let f = facts pl in omega (arith, f.levels, f.limits.sound.levels_high)
