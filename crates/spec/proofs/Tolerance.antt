-- Document 02, ask 7: over every choice of levels between a frame's own and an upper plane, the frame's filter has the least answer at each pixel and
-- the upper plane's the greatest. And the laws of check 13.
-- Assumes nothing.
use mathlib.Core.Path.{◌≡◌, refl, sym, ap, ap₂, ◌∙◌, subst}
use mathlib.Core.Bool.{Bool, true, false, true≢false, not, ◌||◌}
use mathlib.Core.Logic.{◌⊎◌, inl, inr}
use mathlib.Core.List.{List, [], ◌∷◌}
use Prim.Native.Nat.{ℕ, ◌+◌, ◌*◌, ◌/◌, ◌%◌, ◌≤◌, ◌<◌}
use native.Mathlib.Nat.{mod-lt, div-add-mod', div-lt_iff_lt-mul, mul_comm, mul-le-mul, le_refl}
use native.Mathlib.Omega.{arith}
use native.Mathlib.Decide.{dec_lt}
use lib.Arith.{digits_div, digits_mod}
use lib.Dec.{leb, ltb, eqb}
use lib.ListN.{length, get_or}
use lib.Seq.{ext_get_or}
use borrow.Author.Tests.{ltb-false, leb-false, lt-ltb, le-ltb, eqb-true, eqb-false, eq-eqb, ne_eqb, not-false}
use Rattle.std.specs.Prelude.{if◌then◌else◌}
use Rattle.spec.specs.Base.{first}
use Rattle.spec.specs.declared.Settings.{Settings}
use Rattle.spec.specs.declared.Room.{Room}
use Rattle.spec.specs.declared.Way.TheVariants.{Joint}
use Rattle.spec.specs.Refusal.{accepted, ◌▷◌, refuse}
use Rattle.spec.specs.Frame.{
  Frame,
  level,
  dead,
  no_reading,
  pixels,
  in_place,
  with_values,
  settings_of,
  pixel_level,
  frame_of,
  frame_with,
}
use Rattle.spec.specs.Checks.{SettingsLimits, ValuesFit, PlaneFits, verdict}
use Rattle.spec.specs.Window.{pixel_count, guide_sum, square_sum}
use Rattle.spec.specs.Median.{answer, NoneNegative}
use Rattle.spec.specs.Filter.{filtered}
use Rattle.spec.specs.Calls.{way_of, room_of, lacks, short}
use Rattle.spec.specs.Tolerance.{own_values, Choice, LeastAndGreatest, bad_span, bad_upper, tolerance_checks, tolerance_outcome}
use Rattle.spec.proofs.First.{First, first-is, length-tabulate, get_d_tabulate}
use Rattle.spec.proofs.Checks.{both-accepted, not-fired, neither}
use Rattle.spec.proofs.Limits.{FrameLimits, Pixel, in-plane, value-dead, limits_of}
use Rattle.spec.proofs.Calls.{RoomFits, fits-of}
use Rattle.spec.proofs.Own.{table-light}
use Rattle.spec.proofs.Totals.{answer-empty}
use Rattle.spec.proofs.Warmer.{
  AlikeFrames,
  Warmer,
  alike-count,
  alike-empty,
  alike-guides,
  alike-squares,
  alike-none,
  warmer-answer,
  same_answer,
}

-- ---- a pixel by its number
module _ (k : Settings) (low : 1 ≤ k.width) where
  pub column-of : (q : ℕ) → q % k.width < k.width
  column-of q = mod-lt q low

  pub row_of : (q : ℕ) → q < pixels k → q / k.width < k.height
  row_of q h = (div-lt_iff_lt-mul low).1 (subst (λ (n : ℕ). q < n) (mul_comm k.width k.height) h)

-- ---- check 13
-- one pixel: of a dead reading, of one above its upper level, and of the others
pub span-dead : (l a u : ℕ) → a ≡ no_reading → not (eqb u no_reading) ≡ bad_span l a u
unfolding bad_span
span-dead l a u e = rw (eq-eqb a no_reading e) refl

pub span-low : (l a u : ℕ) → (a ≡ no_reading → ⊥) → u < a → true ≡ bad_span l a u
unfolding bad_span
span-low l a u e h = rw (ne_eqb a no_reading e, lt-ltb u a h) refl

pub span-high : (l a u : ℕ) → (a ≡ no_reading → ⊥) → a ≤ u → leb l u ≡ bad_span l a u
unfolding bad_span
span-high l a u e h = rw (ne_eqb a no_reading e, le-ltb u a h) refl

-- what it lets pass: both dead; or neither, in order, and the upper one a level
pub record Span (l a u : ℕ) : Type 0 where
  pub dead : eqb u no_reading ≡ eqb a no_reading
  pub order : a ≤ u
  pub low : eqb a no_reading ≡ false → u < l

pub span-passes : (l a u : ℕ) → l ≤ 1024 → bad_span l a u ≡ false → Span l a u
unfolding bad_span
span-passes l a u small = go (eqb a no_reading) refl
  where
    go : (b : Bool) → eqb a no_reading ≡ b → (if b then not (eqb u no_reading) else (ltb u a || leb l u)) ≡ false → Span l a u
    go true d e =
        let x : a ≡ no_reading = eqb-true a no_reading d in
        let y : eqb u no_reading ≡ true = not-false (eqb u no_reading) e in
        let z : u ≡ no_reading = eqb-true u no_reading y in
        record { dead = y ∙ sym d; order = omega arith; low = λ f. absurd (true≢false (sym d ∙ f)) }
    go false d e =
        let n = neither (ltb u a) (leb l u) e in
        let x : u < l = leb-false l u n.1 in
        record { dead = ne_eqb u no_reading (λ f. omega arith) ∙ sym d; order = ltb-false u a n.0; low = λ f. x }

-- the plane, as a loop meets it
first_found : (test : ℕ → Bool) (n q : ℕ) → q < n → test q ≡ true → ltb (first test n) n ≡ true
first_found test n q h e = go (dec_lt q (first test n))
  where
    go : Dec (q < first test n) → ltb (first test n) n ≡ true
    go (yes l) = absurd (true≢false (sym e ∙ (first-is test n).before q l))
    go (no l) = lt-ltb (first test n) n (omega arith)

first-none : (test : ℕ → Bool) (n : ℕ) → ((q : ℕ) → q < n → test q ≡ false) → ltb (first test n) n ≡ false
first-none test n h = go (dec_lt (first test n) n)
  where
    go : Dec (first test n < n) → ltb (first test n) n ≡ false
    go (yes l) = absurd (true≢false (sym ((first-is test n).passes l) ∙ h (first test n) l))
    go (no l) = le-ltb (first test n) n (omega arith)

none_first : (test : ℕ → Bool) (n : ℕ) → ltb (first test n) n ≡ false → (q : ℕ) → q < n → test q ≡ false
none_first test n e q h = (first-is test n).before q (omega (arith, ltb-false (first test n) n e))

module _ (b u : List ℕ) (n l : ℕ) (size : n ≡ pixels (settings_of b)) (levels : l ≡ (settings_of b).levels) where
  pub wrong-length : (length u ≡ n → ⊥) → true ≡ bad_upper b u
  unfolding bad_upper
  wrong-length e = rw (sym size, ne_eqb (length u) n e) refl

  pub found-bad : length u ≡ n → (q : ℕ) → q < n → bad_span l (pixel_level b q) (get_or u q 0) ≡ true → true ≡ bad_upper b u
  unfolding bad_upper
  found-bad e q h t = rw (sym size, sym levels, eq-eqb (length u) n e) (sym (first_found _ n q h t))

  pub none-bad : length u ≡ n → ((q : ℕ) → q < n → bad_span l (pixel_level b q) (get_or u q 0) ≡ false) → false ≡ bad_upper b u
  unfolding bad_upper
  none-bad e h = rw (sym size, sym levels, eq-eqb (length u) n e) (sym (first-none _ n h))

-- ---- a plane in place of a frame's own
-- of one number or more, it is the one that is read
pub in_place_lem : (v : List ℕ) (q n : ℕ) → 0 < length v → in_place v q n ≡ get_or v q 0
in_place_lem [] q n h = absurd (omega arith)
in_place_lem (a ∷ v) q n h = refl

pub alike-with : (p : Frame) (v : List ℕ)
    → ((x y : ℕ) → x < p.set.width → y < p.set.height → eqb (in_place v (y * p.set.width + x) (level p x y)) no_reading ≡ dead p x y)
    → AlikeFrames p (with_values p v)
alike-with p v h = record { settings = refl; guides = λ x y hx hy. refl; tables = λ f g hf hg. refl; dead = h }

-- the frame's own plane
pub own_at : (p : Frame) (x y : ℕ) → x < p.set.width → y < p.set.height → get_or (own_values p) (y * p.set.width + x) 0 ≡ level p x y
unfolding own_values
own_at p x y hx hy =
    get_d_tabulate (pixels p.set) _ (y * p.set.width + x) 0 (in-plane p.set x y hx hy) ∙ ap₂ (level p) (digits_mod y hx) (digits_div y hx)

-- ---- any frame in which no own weight is negative
abbrev pub NowhereNegative : Frame → Type 0
NowhereNegative p = (s t : ℕ) → s < p.set.width → t < p.set.height → NoneNegative p s t

-- a plane of upper levels that go with the frame's readings
pub record Upper (p : Frame) (u : List ℕ) : Type 0 where
  pub long : length u ≡ pixels p.set
  pub spans : (q : ℕ) → q < pixels p.set → Span p.set.levels (get_or (own_values p) q 0) (get_or u q 0)

module _ {p : Frame} (good : FrameLimits p) where
  some-pixel : 0 < pixels p.set
  some-pixel = mul-le-mul good.sound.width_low good.sound.height_low

  pixel-at : (q : ℕ) → q < pixels p.set → Pixel p (q % p.set.width) (q / p.set.width)
  pixel-at q h =
      record { good = good; in-column = column-of p.set good.sound.width_low q; in-row = row_of p.set good.sound.width_low q h }

  module _ (u : List ℕ) (up : Upper p u) where
    lower-choice : Choice p.set (own_values p) u (own_values p)
    unfolding own_values
    lower-choice = record { long = length-tabulate (pixels p.set) _; above = λ q h. le_refl _; below = λ q h. (up.spans q h).order }

    upper-choice : Choice p.set (own_values p) u u
    upper-choice = record { long = up.long; above = λ q h. (up.spans q h).order; below = λ q h. le_refl _ }

    -- a choice has the frame's dead pixels, and levels elsewhere
    module _ (v : List ℕ) (c : Choice p.set (own_values p) u v) where
      pub chosen-dead : (q : ℕ) → q < pixels p.set → eqb (get_or v q 0) no_reading ≡ eqb (get_or (own_values p) q 0) no_reading
      chosen-dead q h = go (eqb (get_or (own_values p) q 0) no_reading) refl
        where
          go : (b : Bool) → eqb (get_or (own_values p) q 0) no_reading ≡ b → eqb (get_or v q 0) no_reading ≡ b
          go true e =
              let x : get_or (own_values p) q 0 ≡ no_reading = eqb-true _ _ e in
              let y : get_or u q 0 ≡ no_reading = eqb-true _ _ ((up.spans q h).dead ∙ e) in
              eq-eqb (get_or v q 0) no_reading (omega (arith, c.above q h, c.below q h))
          go false e =
              ne_eqb (get_or v q 0) no_reading (λ d. omega (arith, c.below q h, (up.spans q h).low e, good.sound.levels_high))

      pub chosen-low : (q : ℕ) → q < pixels p.set → eqb (get_or v q 0) no_reading ≡ false → get_or v q 0 < p.set.levels
      chosen-low q h e = omega (arith, c.below q h, (up.spans q h).low (sym (chosen-dead q h) ∙ e))

      chosen_at : (x y : ℕ) → level (with_values p v) x y ≡ get_or v (y * p.set.width + x) 0
      chosen_at x y = in_place_lem v (y * p.set.width + x) (level p x y) (subst (λ (n : ℕ). 0 < n) (sym c.long) some-pixel)

      pub chosen-alike : AlikeFrames p (with_values p v)
      chosen-alike =
          alike-with p v
          (λ x y hx hy. ap (λ (n : ℕ). eqb n no_reading) (chosen_at x y) ∙ chosen-dead _ (in-plane p.set x y hx hy)
          ∙ ap (λ (n : ℕ). eqb n no_reading) (own_at p x y hx hy))

      pub chosen-good : FrameLimits (with_values p v)
      chosen-good =
          record {
            sound = good.sound;
            level-low = λ x y hx hy e. subst (λ (n : ℕ). n < p.set.levels) (sym (chosen_at x y))
                (chosen-low _ (in-plane p.set x y hx hy) (sym (ap (λ (n : ℕ). eqb n no_reading) (chosen_at x y)) ∙ e));
            guide-low = good.guide-low;
          }

      chosen-warmer : Warmer p (with_values p v)
      chosen-warmer =
          record {
            alike = chosen-alike;
            levels = λ x y hx hy. omega (arith, own_at p x y hx hy, chosen_at x y, c.above (y * p.set.width + x) (in-plane p.set x y hx hy));
          }

    upper-warmer : (v : List ℕ) (c : Choice p.set (own_values p) u v) → Warmer (with_values p v) (with_values p u)
    upper-warmer v c =
        record {
          alike = record {
            settings = refl;
            guides = λ x y hx hy. refl;
            tables = λ f g hf hg. refl;
            dead = λ x y hx hy. (chosen-alike u upper-choice).dead x y hx hy ∙ sym ((chosen-alike v c).dead x y hx hy);
          };
          levels = λ x y hx hy.
              omega (arith, chosen_at v c x y, chosen_at u upper-choice x y, c.below (y * p.set.width + x) (in-plane p.set x y hx hy));
        }

    -- an answer at its place
    answered : (v : List ℕ) (q : ℕ) → q < pixels p.set
        → get_or (filtered (with_values p v)) q 0 ≡ answer (with_values p v) (q % p.set.width) (q / p.set.width)
    unfolding filtered
    answered v q h = get_d_tabulate (pixels p.set) _ q 0 h

    -- the frame's own plane is a choice that changes nothing
    own-filtered : filtered (with_values p (own_values p)) ≡ filtered p
    unfolding filtered
    own-filtered =
        ext_get_or 0 _ _ (length-tabulate (pixels p.set) _ ∙ sym (length-tabulate (pixels p.set) _))
        (λ q h. let l : q < pixels p.set = subst (λ (n : ℕ). q < n) (length-tabulate (pixels p.set) _) h in
        get_d_tabulate (pixels p.set) _ q 0 l
        ∙ same_answer (pixel-at q l) (chosen-alike (own_values p) lower-choice)
        (λ x y hx hy. chosen_at (own_values p) lower-choice x y ∙ own_at p x y hx hy)
        ∙ sym (get_d_tabulate (pixels p.set) _ q 0 l))

    module _ (light : NowhereNegative p) (v : List ℕ) (c : Choice p.set (own_values p) u v) (q : ℕ) (h : q < pixels p.set) where
      light-here : NoneNegative p (q % p.set.width) (q / p.set.width)
      light-here = light _ _ (pixel-at q h).in-column (pixel-at q h).in-row

      chosen-pixel : Pixel (with_values p v) (q % p.set.width) (q / p.set.width)
      chosen-pixel = record { good = chosen-good v c; in-column = (pixel-at q h).in-column; in-row = (pixel-at q h).in-row }

      own-least : get_or (filtered p) q 0 ≤ get_or (filtered (with_values p v)) q 0
      own-least = omega (arith, warmer-answer (pixel-at q h) (chosen-warmer v c) light-here, answered [] q h, answered v q h)

      upper-greatest : get_or (filtered (with_values p v)) q 0 ≤ get_or (filtered (with_values p u)) q 0
      upper-greatest =
          omega (
            arith,
            warmer-answer chosen-pixel (upper-warmer v c) (alike-none (pixel-at q h) (chosen-alike v c) light-here),
            answered v q h,
            answered u q h,
          )

    pub least-and-greatest : NowhereNegative p → LeastAndGreatest p (own_values p) u (filtered p) (filtered (with_values p u))
    least-and-greatest light =
        record {
          lower_chosen = lower-choice;
          upper_chosen = upper-choice;
          lower_reached = own-filtered;
          upper_reached = refl;
          at_least = own-least light;
          at_most = upper-greatest light;
          none_read = λ v c q h e. answered v q h ∙ answer-empty (with_values p v) _ _ (alike-empty (chosen-alike v c) _ _ ∙ e);
        }

-- ---- a file of kind 1
pub table-nowhere : (p : Frame) → p.set.kind ≡ 1 → NowhereNegative p
table-nowhere p e s t hs ht = table-light p s t e

-- a plane that fits is one that may be given
pub fits-plane : (b v : List ℕ) → ValuesFit b v → PlaneFits b v
fits-plane b [] fit = tt
fits-plane b (a ∷ v) fit = fit

module _ (b u : List ℕ) (ok : verdict b ≡ accepted) where
  module _ (fine : bad_upper b u ≡ false) where
    upper_long : length u ≡ pixels (settings_of b)
    unfolding bad_upper
    upper_long = eqb-true _ _ (not-false _ (neither (not (eqb (length u) (pixels (settings_of b)))) _ fine).0)

    pub upper-span : (q : ℕ) → q < pixels (settings_of b) → Span (settings_of b).levels (pixel_level b q) (get_or u q 0)
    unfolding bad_upper frame_of
    upper-span q h =
        span-passes (settings_of b).levels (pixel_level b q) (get_or u q 0) (limits_of b ok).sound.levels_high
        (none_first _ (pixels (settings_of b)) (neither (not (eqb (length u) (pixels (settings_of b)))) _ fine).1 q h)

    pub upper_fits : ValuesFit b u
    upper_fits =
        record {
          long = upper_long;
          low = λ q h e. (upper-span q h).low (sym (upper-span q h).dead ∙ e);
          dead = λ q h. (upper-span q h).dead;
        }

    pub plane-fits : PlaneFits b u
    plane-fits = fits-plane b u upper_fits

    own-reading : (q : ℕ) → q < pixels (settings_of b) → get_or (own_values (frame_of b)) q 0 ≡ pixel_level b q
    unfolding own_values frame_of
    own-reading q h = get_d_tabulate (pixels (settings_of b)) _ q 0 h ∙ ap (pixel_level b) (div-add-mod' q (settings_of b).width)

    upper_of : Upper (frame_of b) u
    unfolding frame_of
    upper_of =
        record {
          long = upper_long;
          spans = λ q h. subst (λ (a : ℕ). Span (settings_of b).levels a (get_or u q 0)) (sym (own-reading q h)) (upper-span q h);
        }

    pub tolerance : (settings_of b).kind ≡ 1
        → LeastAndGreatest (frame_of b) (own_values (frame_of b)) u (filtered (frame_of b)) (filtered (with_values (frame_of b) u))
    unfolding frame_of
    tolerance one = least-and-greatest (limits_of b ok) u upper_of (table-nowhere (frame_of b) one)

  -- ---- any plane that fits leaves the sums in which no level stands
  pub plane-alike : PlaneFits b u → AlikeFrames (frame_of b) (frame_with b u)
  unfolding frame_of
  plane-alike fit = alike-with (frame_of b) u (λ x y hx hy. value-dead b ok u fit _ (in-plane (settings_of b) x y hx hy))

  pub same-sums : PlaneFits b u → (s t : ℕ)
      → (pixel_count (frame_with b u) s t ≡ pixel_count (frame_of b) s t) × (guide_sum (frame_with b u) s t ≡ guide_sum (frame_of b) s t)
      × (square_sum (frame_with b u) s t ≡ square_sum (frame_of b) s t)
  same-sums fit s t = let a = plane-alike fit in (alike-count a s t, alike-guides a s t, alike-squares a s t)

-- ---- so an accepted call gives the least and the greatest answers: check 8 leaves kind 1
pub kind-one : (b : List ℕ) → verdict b ≡ accepted → eqb (settings_of b).kind 2 ≡ false → (settings_of b).kind ≡ 1
unfolding frame_of
kind-one b ok e = go (limits_of b ok).sound.kinds
  where
    k : Settings
    k = settings_of b

    go : ((k.kind ≡ 1) × (k.smoothing ≡ 0)) ⊎ ((k.kind ≡ 2) × (1 ≤ k.smoothing) × (k.smoothing ≤ 65025)) → k.kind ≡ 1
    go (inl h) = h.0
    go (inr h) = absurd (eqb-false k.kind 2 e h.0)

-- what an accepted call has
pub record ToleranceAccepted (b u : List ℕ) (have : Room) (least greatest : ℕ) : Type 0 where
  pub file : verdict b ≡ accepted
  pub one : (settings_of b).kind ≡ 1
  pub upper : bad_upper b u ≡ false
  pub room : RoomFits (room_of Joint (settings_of b)) have
  pub least-plane : pixels (settings_of b) ≤ least
  pub greatest-plane : pixels (settings_of b) ≤ greatest

pub tolerance-accepted : (b u : List ℕ) (have : Room) (least greatest : ℕ) → tolerance_outcome b u have least greatest ≡ accepted
    → ToleranceAccepted b u have least greatest
unfolding tolerance_outcome tolerance_checks short way_of
tolerance-accepted b u have least greatest e =
    let k = settings_of b in
    let kinds = refuse 8 (eqb k.kind 2) in
    let planes = refuse 13 (bad_upper b u) in
    let few = lacks (room_of Joint k) have in
    let stores = refuse 11 (few || ltb least (pixels k) || ltb greatest (pixels k)) in
    let file = both-accepted (verdict b) (kinds ▷ planes ▷ stores) e in
    let kind = both-accepted kinds (planes ▷ stores) file.1 in
    let plane = both-accepted planes stores kind.1 in
    let out = neither (few || ltb least (pixels k)) (ltb greatest (pixels k)) (not-fired 11 _ plane.1) in
    let room = neither few (ltb least (pixels k)) out.0 in
    record {
      file = file.0;
      one = kind-one b file.0 (not-fired 8 _ kind.0);
      upper = not-fired 13 _ plane.0;
      room = fits-of _ _ room.0;
      least-plane = ltb-false _ _ room.1;
      greatest-plane = ltb-false _ _ out.1;
    }

pub accepted-tolerance : (b u : List ℕ) (have : Room) (least greatest : ℕ) → tolerance_outcome b u have least greatest ≡ accepted
    → LeastAndGreatest (frame_of b) (own_values (frame_of b)) u (filtered (frame_of b)) (filtered (with_values (frame_of b) u))
accepted-tolerance b u have least greatest e =
    let a = tolerance-accepted b u have least greatest e in
    tolerance b u a.file a.upper a.one
