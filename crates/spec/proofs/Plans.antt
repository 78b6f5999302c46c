-- What the plan of an accepted file says, with its own values or a plane in their place: the frame's settings, and where its pixels and its weights
-- stand. Every function on a file begins from `facts`.
-- Assumes nothing.
use mathlib.Core.Path.{◌≡◌, refl, sym, ap₂, subst, ◌∙◌}
use mathlib.Core.Bool.{Bool, true, false}
use mathlib.Core.Logic.{◌⊎◌, inl, inr}
use mathlib.Core.List.{List, [], ◌∷◌}
use Prim.Native.Nat.{ℕ, ◌+◌, ◌*◌, ◌≤◌, ◌<◌}
use native.Mathlib.Nat.{mul_comm, le_trans, mul-le-mul}
use native.Mathlib.Omega.{arith}
use lib.Arith.{digits_lt}
use lib.Dec.{eqb}
use lib.ListN.{length}
use Rattle.spec.specs.declared.Settings.{Settings}
use Rattle.spec.specs.declared.Trailer.{Trailer}
use Rattle.spec.specs.declared.Plan.{Plan}
use Rattle.std.specs.Prelude.{if◌then◌else◌}
use Rattle.spec.specs.Refusal.{accepted}
use Rattle.spec.specs.Frame.{
  Frame,
  level,
  guide,
  table,
  table_size,
  own_weights,
  settings_of,
  trailer_of,
  trailer_at,
  plan_of,
  plane,
  pixel_level,
  pixel_guide,
  built_in,
  frame_of,
  frame_with,
  value_of,
}
use Rattle.spec.specs.Checks.{verdict, PlaneFits, Pictured, Planned, SettingsLimits}
use Rattle.spec.proofs.Checks.{Near, FilePassed, passed}
use Rattle.spec.proofs.Limits.{FrameLimits, Pixel, limits_of, limits-with}

pub record Facts (b vs : List ℕ) (z : Plan) : Type 0 where
  pub limits : FrameLimits (frame_with b vs)
  pub width : z.width ≡ (frame_of b).set.width
  pub height : z.height ≡ (frame_of b).set.height
  pub levels : z.levels ≡ (frame_of b).set.levels
  pub guides : z.guides ≡ (frame_of b).set.guides
  pub kind : z.kind ≡ (frame_of b).set.kind
  pub radius : z.radius ≡ (frame_of b).set.radius
  pub smoothing : z.smoothing ≡ (frame_of b).set.smoothing
  pub value-last : z.value + 2 * (z.width * z.height) ≤ length b
  pub guide-last : z.guide + 2 * (z.width * z.height) ≤ length b
  pub table-last : z.table + 2 * z.weights ≤ length b
  pub level_is : (q : ℕ) → plane b z.value q ≡ pixel_level b q
  pub guide-is : (q : ℕ) → plane b z.guide q ≡ pixel_guide b q
  pub level_at : (x y : ℕ) → value_of b vs (y * z.width + x) ≡ level (frame_with b vs) x y
  pub guide-at : (x y : ℕ) → pixel_guide b (y * z.width + x) ≡ guide (frame_of b) x y

own : (b vs : List ℕ) → verdict b ≡ accepted → PlaneFits b vs → Facts b vs (plan_of b)
unfolding plan_of frame_of trailer_at trailer_of pixel_level pixel_guide
own b vs ok fit =
    let h = passed b ok in
    let n = h.near in
    record {
      limits = limits-with b ok vs fit;
      width = refl;
      height = refl;
      levels = refl;
      guides = refl;
      kind = refl;
      radius = refl;
      smoothing = refl;
      value-last = omega (arith, n.value-long, n.value_in);
      guide-last = omega (arith, n.guide-long, n.guide-in);
      table-last = omega (arith, n.table-long, n.table-in, h.long);
      level_is = λ q. refl;
      guide-is = λ q. refl;
      level_at = λ x y. refl;
      guide-at = λ x y. refl;
    }

pub facts : {b vs : List ℕ} {z : Plan} → Pictured b vs z → Facts b vs z
facts {b} {vs} {z} k = subst (λ (q : Plan). Facts b vs q) (sym k.plan) (own b vs k.accepts k.fits)

-- the file by itself
pub with-own : {b vs : List ℕ} {z : Plan} → Pictured b vs z → Planned b z
with-own k = record { accepts = k.accepts; plan = k.plan; fits = tt }

-- a pixel of the plan is a pixel of the frame
pub pixel-of : {b vs : List ℕ} {z : Plan} → Pictured b vs z → {s t : ℕ} → s < z.width → t < z.height → Pixel (frame_with b vs) s t
pixel-of k hs ht = let f = facts k in record { good = f.limits; in-column = rw f.width at hs; in-row = rw f.height at ht }

-- its place in a plane
pub place-low : (z : Plan) (x y : ℕ) → x < z.width → y < z.height → y * z.width + x < z.width * z.height
place-low z x y hx hy = subst (λ (n : ℕ). y * z.width + x < n) (mul_comm z.height z.width) (digits_lt hy hx)

pub plane-small : {b vs : List ℕ} {z : Plan} → Pictured b vs z → z.width * z.height ≤ 262144
plane-small {z = z} k = let f = facts k in subst (λ (n : ℕ). n ≤ 262144) (sym (ap₂ ◌*◌ f.width f.height)) f.limits.sound.pixels_high

-- kind 2 has a smoothing from 1 to 65,025
pub smoothing-of : {p : Frame} → FrameLimits p → p.set.kind ≡ 2 → (1 ≤ p.set.smoothing) × (p.set.smoothing ≤ 65025)
smoothing-of {p} g two = go g.sound.kinds
  where
    go : ((p.set.kind ≡ 1) × (p.set.smoothing ≡ 0)) ⊎ ((p.set.kind ≡ 2) × (1 ≤ p.set.smoothing) × (p.set.smoothing ≤ 65025))
        → (1 ≤ p.set.smoothing) × (p.set.smoothing ≤ 65025)
    go (inl h) = absurd (omega (arith, h.0))
    go (inr h) = (h.1, h.2)

-- ---- the table of kind 1, by whether the file has weights of its own
module _ (b : List ℕ) (f g : ℕ) where
  tabled : (c : Bool) → eqb (trailer_of b).table 0 ≡ c → ((if c then 0 else table_size (settings_of b)) ≡ 0 → ⊥)
      →
      (if c then built_in f g else plane b (plan_of b).table (f * (settings_of b).guides + g)) ≡ plane b (plan_of b).table
      (f * (settings_of b).guides + g)
  tabled true e h = absurd (h refl)
  tabled false e h = refl

  built : (c : Bool) → eqb (trailer_of b).table 0 ≡ c → 1 ≤ table_size (settings_of b) → (if c then 0 else table_size (settings_of b)) ≡ 0
      → (if c then built_in f g else plane b (plan_of b).table (f * (settings_of b).guides + g)) ≡ built_in f g
  built true e n h = refl
  built false e n h = absurd (omega (arith, n, h))

  own-tabled : ((plan_of b).weights ≡ 0 → ⊥) → table (frame_of b) f g ≡ plane b (plan_of b).table (f * (plan_of b).guides + g)
  unfolding plan_of frame_of own_weights trailer_of
  own-tabled h = tabled _ refl h

  own-built : verdict b ≡ accepted → (plan_of b).weights ≡ 0 → table (frame_of b) f g ≡ built_in f g
  unfolding plan_of frame_of own_weights trailer_of
  own-built ok h =
      let m : 2 ≤ (settings_of b).guides = (limits_of b ok).sound.guides_low in
      built _ refl (le_trans (omega arith) (mul-le-mul m m)) h

pub table-own : {b vs : List ℕ} {z : Plan} → Pictured b vs z → (z.weights ≡ 0 → ⊥) → (f g : ℕ) →
    table (frame_of b) f g ≡ plane b z.table (f * z.guides + g)
table-own {b} {z = z} k n f g =
    subst (λ (q : Plan). (q.weights ≡ 0 → ⊥) → table (frame_of b) f g ≡ plane b q.table (f * q.guides + g)) (sym k.plan) (own-tabled b f g) n

pub table-built : {b vs : List ℕ} {z : Plan} → Pictured b vs z → z.weights ≡ 0 → (f g : ℕ) → table (frame_of b) f g ≡ built_in f g
table-built {b} {z = z} k n f g =
    subst (λ (q : Plan). q.weights ≡ 0 → table (frame_of b) f g ≡ built_in f g) (sym k.plan) (own-built b f g k.accepts) n

-- ---- a plan's kind is the frame's, 1 or 2
pub kind-of : {b vs : List ℕ} {z : Plan} → Pictured b vs z → {k : ℕ} → z.kind ≡ k → (frame_of b).set.kind ≡ k
kind-of pl e = sym (facts pl).kind ∙ e

pub kind-table : {b vs : List ℕ} {z : Plan} → Pictured b vs z → (z.kind ≡ 2 → ⊥) → z.kind ≡ 1
kind-table {b} {z = z} pl n = go (facts pl).limits.sound.kinds
  where
    p : Frame
    p = frame_of b

    go : ((p.set.kind ≡ 1) × (p.set.smoothing ≡ 0)) ⊎ ((p.set.kind ≡ 2) × (1 ≤ p.set.smoothing) × (p.set.smoothing ≤ 65025)) → z.kind ≡ 1
    go (inl h) = (facts pl).kind ∙ h.0
    go (inr h) = absurd (n ((facts pl).kind ∙ h.0))
