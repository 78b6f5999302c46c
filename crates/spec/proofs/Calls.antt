-- What a call that no check refuses has in hand: an accepted file, its pixel, a way that serves, room enough.
-- Assumes nothing.
use mathlib.Core.Path.{◌≡◌, refl, sym}
use mathlib.Core.Bool.{Bool, true, false, not, ◌&&◌, ◌||◌, true≢false}
use mathlib.Core.Logic.{◌⊎◌, inl, inr}
use mathlib.Core.List.{List}
use Prim.Native.Nat.{ℕ, ◌+◌, ◌≤◌, ◌<◌}
use native.Mathlib.Omega.{arith}
use lib.Dec.{ltb, eqb}
use borrow.Author.Tests.{ltb-true, ltb-false, eqb-true, not-false}
use Rattle.spec.specs.declared.Settings.{Settings}
use Rattle.spec.specs.declared.Room.{Room}
use Rattle.spec.specs.declared.Way.TheVariants.{Joint, Columns, Chain, Coarse}
use Rattle.std.specs.Prelude.{if◌then◌else◌}
use Rattle.spec.specs.Refusal.{accepted, ◌▷◌, refuse}
use Rattle.spec.specs.Frame.{Frame, pixels, settings_of, frame_of}
use Rattle.spec.specs.Checks.{outside, verdict}
use Rattle.spec.specs.Calls.{
  way_of,
  BothKinds,
  bad_way,
  room_of,
  bad_pixel,
  lacks,
  short,
  walk_checks,
  walk_outcome,
  filter_checks,
  filter_outcome,
  balance_checks,
  balance_outcome,
  explain_checks,
  explain_outcome,
}
use Rattle.spec.proofs.Checks.{both-accepted, not-fired, neither, both}
use Rattle.spec.proofs.Limits.{FrameLimits, Pixel, limits_of}
use Rattle.spec.proofs.Bench.{reply, file_a}

-- ---- check 8
one_of : (a b : Bool) → (not a && not b) ≡ false → (a ≡ true) ⊎ (b ≡ true)
one_of true b e = inl refl
one_of false true e = inr refl
one_of false false e = absurd (true≢false e)

-- a way that serves is one of these, or the kind is 2
pub way-serves : (k : Settings) (n : ℕ) → bad_way k n ≡ false → BothKinds (way_of n) ⊎ (k.kind ≡ 2)
unfolding bad_way way_of
way-serves k n e =
    go (one_of (eqb n 1 || eqb n 4) (eqb k.kind 2) (neither (outside 1 4 n) (not (eqb n 1 || eqb n 4) && not (eqb k.kind 2)) e).1)
  where
    by : (a b c d : Bool) → eqb n 2 ≡ b → eqb n 3 ≡ c → eqb n 4 ≡ d → (a || d) ≡ true
        → BothKinds (if a then Joint else if b then Columns else if c then Chain else Coarse)
    by true b c d e₂ e₃ e₄ h = tt
    by false true c true e₂ e₃ e₄ h = absurd (omega (arith, eqb-true n 2 e₂, eqb-true n 4 e₄))
    by false false true true e₂ e₃ e₄ h = absurd (omega (arith, eqb-true n 3 e₃, eqb-true n 4 e₄))
    by false false false true e₂ e₃ e₄ h = tt
    by false b c false e₂ e₃ e₄ h = absurd (true≢false (sym h))

    go : ((eqb n 1 || eqb n 4) ≡ true) ⊎ (eqb k.kind 2 ≡ true)
        → BothKinds (if eqb n 1 then Joint else if eqb n 2 then Columns else if eqb n 3 then Chain else Coarse) ⊎ (k.kind ≡ 2)
    go (inl d) = inl (by (eqb n 1) (eqb n 2) (eqb n 3) (eqb n 4) refl refl refl d)
    go (inr d) = inr (eqb-true _ _ d)

-- ---- check 9
pub pixel-in : (k : Settings) (s t : ℕ) → bad_pixel k s t ≡ false → (s < k.width) × (t < k.height)
unfolding bad_pixel
pixel-in k s t e = let q = both (ltb s k.width) (ltb t k.height) (not-false _ e) in (ltb-true _ _ q.0, ltb-true _ _ q.1)

pub pixel-of-call : (b : List ℕ) (s t : ℕ) → verdict b ≡ accepted → bad_pixel (settings_of b) s t ≡ false → Pixel (frame_of b) s t
unfolding frame_of
pixel-of-call b s t ok e = let q = pixel-in (settings_of b) s t e in record { good = limits_of b ok; in-column = q.0; in-row = q.1 }

-- ---- check 11
pub record RoomFits (need have : Room) : Type 0 where
  pub counts : need.counts ≤ have.counts
  pub words : need.words ≤ have.words
  pub numbers : need.numbers ≤ have.numbers
  pub summary : need.summary ≤ have.summary

pub fits-of : (need have : Room) → lacks need have ≡ false → RoomFits need have
unfolding lacks
fits-of need have e =
    let c = ltb have.counts need.counts in
    let w = ltb have.words need.words in
    let n = ltb have.numbers need.numbers in
    let m = ltb have.summary need.summary in
    let o = neither (c || w || n) m e in
    let q = neither (c || w) n o.0 in
    let r = neither c w q.0 in
    record { counts = ltb-false _ _ r.0; words = ltb-false _ _ r.1; numbers = ltb-false _ _ q.1; summary = ltb-false _ _ o.1 }

-- ---- a walk of n moves
pub record WalkAccepted (b : List ℕ) (way s t n : ℕ) (have : Room) (out : ℕ) : Type 0 where
  pub file : verdict b ≡ accepted
  pub serves : bad_way (settings_of b) way ≡ false
  pub pixel : Pixel (frame_of b) s t
  pub moves : n ≤ 1048576
  pub room : RoomFits (room_of (way_of way) (settings_of b)) have
  pub answers : n + 1 ≤ out

pub walk-accepted : (b : List ℕ) (way s t n : ℕ) (have : Room) (out : ℕ) → walk_outcome b way s t n have out ≡ accepted →
    WalkAccepted b way s t n have out
unfolding walk_outcome walk_checks short
walk-accepted b way s t n have out e =
    let k = settings_of b in
    let few = lacks (room_of (way_of way) k) have in
    let v₁₁ = refuse 11 (few || ltb out (n + 1)) in
    let v₁₀ = refuse 10 (ltb 1048576 n) in
    let v₉ = refuse 9 (bad_pixel k s t) in
    let v₈ = refuse 8 (bad_way k way) in
    let a = both-accepted (verdict b) (v₈ ▷ v₉ ▷ v₁₀ ▷ v₁₁) e in
    let c = both-accepted v₈ (v₉ ▷ v₁₀ ▷ v₁₁) a.1 in
    let d = both-accepted v₉ (v₁₀ ▷ v₁₁) c.1 in
    let f = both-accepted v₁₀ v₁₁ d.1 in
    let g = neither few (ltb out (n + 1)) (not-fired 11 _ f.1) in
    record {
      file = a.0;
      serves = not-fired 8 _ c.0;
      pixel = pixel-of-call b s t a.0 (not-fired 9 _ d.0);
      moves = ltb-false _ _ (not-fired 10 _ f.0);
      room = fits-of _ _ g.0;
      answers = ltb-false _ _ g.1;
    }

-- ---- a filter
pub record FilterAccepted (b : List ℕ) (way : ℕ) (have : Room) (out : ℕ) : Type 0 where
  pub file : verdict b ≡ accepted
  pub serves : bad_way (settings_of b) way ≡ false
  pub room : RoomFits (room_of (way_of way) (settings_of b)) have
  pub plane : pixels (settings_of b) ≤ out

pub filter-accepted : (b : List ℕ) (way : ℕ) (have : Room) (out : ℕ) → filter_outcome b way have out ≡ accepted → FilterAccepted b way have out
unfolding filter_outcome filter_checks short
filter-accepted b way have out e =
    let k = settings_of b in
    let few = lacks (room_of (way_of way) k) have in
    let v₁₁ = refuse 11 (few || ltb out (pixels k)) in
    let v₈ = refuse 8 (bad_way k way) in
    let a = both-accepted (verdict b) (v₈ ▷ v₁₁) e in
    let c = both-accepted v₈ v₁₁ a.1 in
    let g = neither few (ltb out (pixels k)) (not-fired 11 _ c.1) in
    record { file = a.0; serves = not-fired 8 _ c.0; room = fits-of _ _ g.0; plane = ltb-false _ _ g.1 }

-- ---- a balance
pub record BalanceAccepted (b : List ℕ) (s t i : ℕ) : Type 0 where
  pub file : verdict b ≡ accepted
  pub pixel : Pixel (frame_of b) s t
  pub level : i < (settings_of b).levels

pub balance-accepted : (b : List ℕ) (s t i : ℕ) → balance_outcome b s t i ≡ accepted → BalanceAccepted b s t i
unfolding balance_outcome balance_checks
balance-accepted b s t i e =
    let k = settings_of b in
    let a = both-accepted (verdict b) (refuse 9 (bad_pixel k s t || not (ltb i k.levels))) e in
    let g = neither (bad_pixel k s t) (not (ltb i k.levels)) (not-fired 9 _ a.1) in
    record { file = a.0; pixel = pixel-of-call b s t a.0 g.0; level = ltb-true _ _ (not-false _ g.1) }

pub record ExplainAccepted (b : List ℕ) (s t : ℕ) : Type 0 where
  pub file : verdict b ≡ accepted
  pub pixel : Pixel (frame_of b) s t

pub explain-accepted : (b : List ℕ) (s t : ℕ) → explain_outcome b s t ≡ accepted → ExplainAccepted b s t
unfolding explain_outcome explain_checks
explain-accepted b s t e =
    let a = both-accepted (verdict b) (refuse 9 (bad_pixel (settings_of b) s t)) e in
    record { file = a.0; pixel = pixel-of-call b s t a.0 (not-fired 9 _ a.1) }

-- ---- such a pixel is to be had: bench window A's, in the middle of its row
pixel-A : Pixel (frame_of file_a) 1 0
unfolding reply
pixel-A = pixel-of-call file_a 1 0 refl refl
