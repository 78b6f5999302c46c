-- What an accepted file promises of its frame, as one record; and a pixel of such a frame.
-- Assumes nothing.
use mathlib.Core.Path.{◌≡◌, refl, subst}
use mathlib.Core.Bool.{Bool, true, false, not, ◌||◌, true≢false}
use mathlib.Core.Logic.{◌⊎◌, inl, inr}
use mathlib.Core.List.{List, [], ◌∷◌}
use Prim.Native.Nat.{ℕ, ◌+◌, ◌*◌, ◌≤◌, ◌<◌}
use native.Mathlib.Omega.{arith}
use native.Mathlib.Nat.{div-le_of_le-mul, mul_comm}
use lib.Arith.{digits_lt}
use lib.Dec.{ltb, eqb}
use borrow.Author.Tests.{ltb-false, eqb-true, not-false, eqb-false}
use Rattle.spec.specs.declared.Settings.{Settings}
use Rattle.spec.specs.declared.Trailer.{Trailer}
use Rattle.spec.specs.declared.Plan.{Plan}
use Rattle.std.specs.Prelude.{if◌then◌else◌}
use Rattle.spec.specs.Base.{distance}
use Rattle.spec.specs.Bytes.{AllBytes, be16}
use Rattle.spec.specs.Refusal.{accepted, ◌▷◌, refuse}
use Rattle.spec.specs.Frame.{
  Frame,
  level,
  no_reading,
  dead,
  guide,
  table,
  pixels,
  heaviest,
  settings_of,
  trailer_of,
  plan_of,
  plane,
  pixel_level,
  pixel_guide,
  built_in,
  frame_of,
  frame_with,
  value_of,
}
use Rattle.spec.specs.Checks.{
  outside,
  bad_size,
  bad_counts,
  bad_kind,
  bad_radius,
  settings_outcome,
  scan_file,
  value_scan,
  guide_scan,
  verdict,
  SettingsLimits,
  ValuesFit,
  PlaneFits,
}
use Rattle.spec.proofs.Checks.{both-accepted, not-fired, neither, inside, scan-accepted, judged-below, FilePassed, passed}

pub record FrameLimits (p : Frame) : Type 0 where
  pub sound : SettingsLimits p.set
  pub level-low : (x y : ℕ) → x < p.set.width → y < p.set.height → dead p x y ≡ false → level p x y < p.set.levels
  pub guide-low : (x y : ℕ) → x < p.set.width → y < p.set.height → guide p x y < p.set.guides

-- a pixel of a good frame
pub record Pixel (p : Frame) (s t : ℕ) : Type 0 where
  pub good : FrameLimits p
  pub in-column : s < p.set.width
  pub in-row : t < p.set.height

kinds-of : (k e : ℕ) → (if eqb k 1 then not (eqb e 0) else if eqb k 2 then outside 1 65025 e else true) ≡ false
    → ((k ≡ 1) × (e ≡ 0)) ⊎ ((k ≡ 2) × (1 ≤ e) × (e ≤ 65025))
kinds-of k e = go (eqb k 1) refl (eqb k 2) refl
  where
    go : (b : Bool) → eqb k 1 ≡ b → (c : Bool) → eqb k 2 ≡ c → (if b then not (eqb e 0) else if c then outside 1 65025 e else true) ≡ false
        → ((k ≡ 1) × (e ≡ 0)) ⊎ ((k ≡ 2) × (1 ≤ e) × (e ≤ 65025))
    go true d c f h = inl (eqb-true _ _ d, eqb-true _ _ (not-false _ h))
    go false d true f h = let q = inside 1 65025 e h in inr (eqb-true _ _ f, q.0, q.1)
    go false d false f h = absurd (true≢false h)

pub settings-limits : (k : Settings) → settings_outcome k ≡ accepted → SettingsLimits k
unfolding settings_outcome bad_size bad_counts bad_kind bad_radius
settings-limits k ok =
    let a = both-accepted (refuse 2 (bad_size k)) (refuse 3 (bad_counts k) ▷ refuse 4 (bad_kind k) ▷ refuse 5 (bad_radius k)) ok in
    let b = both-accepted (refuse 3 (bad_counts k)) (refuse 4 (bad_kind k) ▷ refuse 5 (bad_radius k)) a.1 in
    let c = both-accepted (refuse 4 (bad_kind k)) (refuse 5 (bad_radius k)) b.1 in
    let sizes = neither (outside 1 1024 k.width || outside 1 1024 k.height) (ltb 262144 (pixels k)) (not-fired 2 (bad_size k) a.0) in
    let sides = neither (outside 1 1024 k.width) (outside 1 1024 k.height) sizes.0 in
    let w = inside 1 1024 k.width sides.0 in
    let h = inside 1 1024 k.height sides.1 in
    let counts = neither (outside 2 1024 k.levels) (outside 2 256 k.guides) (not-fired 3 (bad_counts k) b.0) in
    let l = inside 2 1024 k.levels counts.0 in
    let m = inside 2 256 k.guides counts.1 in
    record {
      width_low = w.0;
      width_high = w.1;
      height_low = h.0;
      height_high = h.1;
      pixels_high = ltb-false _ _ sizes.1;
      levels_low = l.0;
      levels_high = l.1;
      guides_low = m.0;
      guides_high = m.1;
      radius_high = ltb-false _ _ (not-fired 5 (bad_radius k) c.1);
      kinds = kinds-of k.kind k.smoothing (not-fired 4 (bad_kind k) c.0);
    }

-- ---- the weights, of any file: no check looks at them, and their 16 bits bound them
pub built-in-low : (f g : ℕ) → built_in f g ≤ heaviest
unfolding built_in
built-in-low f g = div-le_of_le-mul (16 + distance f g) (omega arith)

-- a guide weighs 256 for itself
pub built-in-pos : (f : ℕ) → 0 < built_in f f
unfolding built_in
built-in-pos f = let e : distance f f ≡ 0 = omega arith in rw e (omega arith)

pub be16-low : (b : List ℕ) → AllBytes b → (at : ℕ) → be16 b at ≤ heaviest
unfolding be16
be16-low b bytes at = omega (arith, bytes at, bytes (at + 1))

pub table-low : (b : List ℕ) → AllBytes b → (f g : ℕ) → table (frame_of b) f g ≤ heaviest
unfolding frame_of
table-low b bytes f g = go (eqb (trailer_of b).table 0)
  where
    go : (own : Bool) → (if own then built_in f g else plane b (plan_of b).table (f * (settings_of b).guides + g)) ≤ heaviest
    go true = built-in-low f g
    go false = be16-low b bytes _

-- a pixel's place in a plane
pub in-plane : (k : Settings) (s t : ℕ) → s < k.width → t < k.height → t * k.width + s < pixels k
in-plane k s t hs ht = subst (λ (n : ℕ). t * k.width + s < n) (mul_comm k.height k.width) (digits_lt ht hs)

module _ (b : List ℕ) (ok : verdict b ≡ accepted) where
  -- a level, or no reading
  pub level-below : (q : ℕ) → q < pixels (settings_of b) → (pixel_level b q < (settings_of b).levels) ⊎ (pixel_level b q ≡ no_reading)
  unfolding pixel_level value_scan scan_file plan_of
  level-below q h = judged-below _ _ (scan-accepted _ _ _ _ (passed b ok).values q h)

  pub level-live : (q : ℕ) → q < pixels (settings_of b) → eqb (pixel_level b q) no_reading ≡ false → pixel_level b q < (settings_of b).levels
  level-live q h e = go (level-below q h)
    where
      go : (pixel_level b q < (settings_of b).levels) ⊎ (pixel_level b q ≡ no_reading) → pixel_level b q < (settings_of b).levels
      go (inl l) = l
      go (inr d) = absurd (eqb-false _ _ e d)

  pub guide-below : (q : ℕ) → q < pixels (settings_of b) → pixel_guide b q < (settings_of b).guides
  unfolding pixel_guide guide_scan scan_file plan_of
  guide-below q h = scan-accepted _ _ _ _ (passed b ok).guides q h

  -- the same of a plane in place of the file's own
  pub value-live : (vs : List ℕ) → PlaneFits b vs → (q : ℕ) → q < pixels (settings_of b)
      → eqb (value_of b vs q) no_reading ≡ false → value_of b vs q < (settings_of b).levels
  value-live [] fit q h e = level-live q h e
  value-live (v ∷ vs) fit q h e = fit.low q h e

  pub value-dead : (vs : List ℕ) → PlaneFits b vs → (q : ℕ) → q < pixels (settings_of b)
      → eqb (value_of b vs q) no_reading ≡ eqb (pixel_level b q) no_reading
  value-dead [] fit q h = refl
  value-dead (v ∷ vs) fit q h = fit.dead q h

  pub limits-with : (vs : List ℕ) → PlaneFits b vs → FrameLimits (frame_with b vs)
  unfolding frame_of
  limits-with vs fit =
      record {
        sound = settings-limits (settings_of b) (passed b ok).settings;
        level-low = λ x y hx hy. value-live vs fit _ (in-plane (settings_of b) x y hx hy);
        guide-low = λ x y hx hy. guide-below _ (in-plane (settings_of b) x y hx hy);
      }

  pub limits_of : FrameLimits (frame_of b)
  limits_of = limits-with [] tt
