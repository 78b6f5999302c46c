-- The filter's walk: after i moves it is at the pixel that it should be, having answered there; each pixel is visited once; so its answers, put to
-- their
-- pixels' places, are the filtered plane.
-- Assumes nothing.
use Prim.Native.Nat.{ℕ, zero, suc, ◌+◌, ◌-◌, ◌*◌, ◌/◌, ◌%◌, ◌<◌}
use mathlib.Core.Path.{◌≡◌, refl, ap, ap₂, sym, ◌∙◌, subst}
use mathlib.Core.Bool.{Bool, true, false}
use native.Mathlib.Omega.{arith}
use native.Mathlib.Nat.{mod-lt, div-add-mod', div-lt_iff_lt-mul, mul_comm, div-eq_of_lt, mod-eq_of_lt}
use lib.Arith.{digits_div, digits_mod, digits_lt}
use lib.Dec.{ltb, eqb}
use lib.ListN.{length, get_or, take}
use borrow.Author.Tests.{eqb-true, eqb-false, eq-eqb, ne_eqb, lt-ltb, ltb-true, ltb-false}
use Rattle.spec.specs.declared.Settings.{Settings}
use Rattle.spec.specs.declared.Way.{Way}
use Rattle.spec.specs.declared.Way.TheVariants.{Joint}
use Rattle.spec.specs.declared.Move.{Move}
use Rattle.spec.specs.declared.Move.TheVariants.{To, Nowhere}
use Rattle.std.specs.Prelude.{if◌then◌else◌}
use Rattle.spec.specs.Frame.{Frame, pixels}
use Rattle.spec.specs.Median.{answer}
use Rattle.spec.specs.Walk.{State, arrive, start, move, step, after, walk_end, walk_answers}
use Rattle.spec.specs.Filter.{turn, serpentine, filtered}
use Rattle.spec.proofs.First.{length-tabulate, get_d_tabulate}
use Rattle.spec.proofs.Steps.{get_or-answers}
use Rattle.spec.proofs.Walks.{step-to, after_next, arrive-column, arrive-row, arrive-answer}
use Rattle.spec.specs.Checks.{SettingsLimits}
use Rattle.spec.proofs.Limits.{FrameLimits}

-- the column of the d-th pixel of row q that the walk visits, from 0
unfoldable pub column_in : ℕ → ℕ → ℕ → ℕ
column_in w q d = if eqb (q % 2) 0 then d else w - 1 - d

abbrev pub column_after : ℕ → ℕ → ℕ
column_after w i = column_in w (i / w) (i % w)

-- the number of the pixel after i moves; and of the moves to pixel i, since this is its own inverse
unfoldable pub visited : ℕ → ℕ → ℕ
visited w i = (i / w) * w + column_after w i

module _ (w : ℕ) (pos : 0 < w) where
  pub column-even : (q d : ℕ) → q % 2 ≡ 0 → column_in w q d ≡ d
  unfolding column_in
  column-even q d e = rw (eq-eqb (q % 2) 0 e)

  pub column-odd : (q d : ℕ) → (q % 2 ≡ 0 → ⊥) → column_in w q d ≡ w - 1 - d
  unfolding column_in
  column-odd q d e = rw (ne_eqb (q % 2) 0 e)

  pub column-lt : (q d : ℕ) → d < w → column_in w q d < w
  unfolding column_in
  column-lt q d h = by (eqb (q % 2) 0)
    where
      by : (b : Bool) → (if b then d else w - 1 - d) < w
      by true = h
      by false = omega arith

  pub column-twice : (q d : ℕ) → d < w → column_in w q (column_in w q d) ≡ d
  unfolding column_in
  column-twice q d h = by (eqb (q % 2) 0)
    where
      by : (b : Bool) → (if b then (if b then d else w - 1 - d) else w - 1 - (if b then d else w - 1 - d)) ≡ d
      by true = refl
      by false = omega arith

  pub visited-div : (i : ℕ) → visited w i / w ≡ i / w
  unfolding visited
  visited-div i = digits_div (i / w) (column-lt (i / w) (i % w) (mod-lt i pos))

  pub visited-mod : (i : ℕ) → visited w i % w ≡ column_after w i
  unfolding visited
  visited-mod i = digits_mod (i / w) (column-lt (i / w) (i % w) (mod-lt i pos))

  pub visited-is : (j : ℕ) → visited w j ≡ (j / w) * w + column_in w (j / w) (j % w)
  unfolding visited
  visited-is j = refl

  pub visited-twice : (i : ℕ) → visited w (visited w i) ≡ i
  visited-twice i = visited-is (visited w i) ∙ by _ _ (visited-div i) (visited-mod i)
    where
      by : (q d : ℕ) → q ≡ i / w → d ≡ column_after w i → q * w + column_in w q d ≡ i
      by q d e f = rw (e, f, column-twice (i / w) (i % w) (mod-lt i pos)) (div-add-mod' i w)

  pub visited-lt : (h i : ℕ) → i < h * w → visited w i < h * w
  unfolding visited
  visited-lt h i l = digits_lt ((div-lt_iff_lt-mul pos).1 l) (column-lt (i / w) (i % w) (mod-lt i pos))

  -- one more: in the row, or to the next
  pub next-in : (i : ℕ) → i % w + 1 < w → ((i + 1) / w ≡ i / w) × ((i + 1) % w ≡ i % w + 1)
  next-in i h =
      let e : i + 1 ≡ i / w * w + (i % w + 1) = omega (arith, div-add-mod' i w) in
      (ap (λ (j : ℕ). j / w) e ∙ digits_div (i / w) h, ap (λ (j : ℕ). j % w) e ∙ digits_mod (i / w) h)

  pub next_row : (i : ℕ) → i % w + 1 ≡ w → ((i + 1) / w ≡ i / w + 1) × ((i + 1) % w ≡ 0)
  next_row i h =
      let e : i + 1 ≡ (i / w + 1) * w + 0 = omega (arith, div-add-mod' i w) in
      (ap (λ (j : ℕ). j / w) e ∙ digits_div (i / w + 1) pos, ap (λ (j : ℕ). j % w) e ∙ digits_mod (i / w + 1) pos)

  pub ends : (i : ℕ) → (i + 1) % w ≡ 0 → i % w + 1 ≡ w
  ends i z = by (ltb (i % w + 1) w) refl
    where
      by : (b : Bool) → ltb (i % w + 1) w ≡ b → i % w + 1 ≡ w
      by true e = let h = next-in i (ltb-true (i % w + 1) w e) in absurd (omega (arith, z, h.1))
      by false e = omega (arith, ltb-false (i % w + 1) w e, mod-lt i pos)

  pub goes : (i : ℕ) → ((i + 1) % w ≡ 0 → ⊥) → i % w + 1 < w
  goes i n = by (eqb (i % w + 1) w) refl
    where
      by : (b : Bool) → eqb (i % w + 1) w ≡ b → i % w + 1 < w
      by true e = let h = next_row i (eqb-true (i % w + 1) w e) in absurd (n h.1)
      by false e = let m : i % w + 1 ≡ w → ⊥ = eqb-false (i % w + 1) w e in omega (arith, m, mod-lt i pos)

module _ (k : Settings) (pos : 0 < k.width) where
  right : (s t : ℕ) → s + 1 < k.width → move k s t 0 ≡ To (s + 1) t
  unfolding move
  right s t h = simp (lt-ltb (s + 1) k.width h)

  left : (s t : ℕ) → 0 < s → move k s t 1 ≡ To (s - 1) t
  unfolding move
  left s t h = simp (lt-ltb 0 s h)

  down : (s t : ℕ) → t + 1 < k.height → move k s t 2 ≡ To s (t + 1)
  unfolding move
  down s t h = simp (lt-ltb (t + 1) k.height h)

  in-row : (q d : ℕ) → d + 1 < k.width → (b : Bool) → eqb (q % 2) 0 ≡ b →
      move k (column_in k.width q d) q (q % 2) ≡ To (column_in k.width q (d + 1)) q
  in-row q d h true e =
      let z : q % 2 ≡ 0 = eqb-true (q % 2) 0 e in
      rw (z, column-even k.width pos q d z, column-even k.width pos q (d + 1) z) (right d q h)
  in-row q d h false e =
      let n : q % 2 ≡ 0 → ⊥ = eqb-false (q % 2) 0 e in
      let z : q % 2 ≡ 1 = omega (arith, n) in
      let f : k.width - 1 - (d + 1) ≡ k.width - 1 - d - 1 = omega arith in
      rw (z, column-odd k.width pos q d n, column-odd k.width pos q (d + 1) n, f) (left (k.width - 1 - d) q (omega arith))

  to_row : (q d : ℕ) → d + 1 ≡ k.width → q + 1 < k.height → (b : Bool) → eqb (q % 2) 0 ≡ b →
      move k (column_in k.width q d) q 2 ≡ To (column_in k.width (q + 1) 0) (q + 1)
  to_row q d h l true e =
      let z : q % 2 ≡ 0 = eqb-true (q % 2) 0 e in
      let n : (q + 1) % 2 ≡ 0 → ⊥ = λ y. omega (arith, y, z) in
      let f : k.width - 1 - 0 ≡ d = omega arith in
      rw (column-even k.width pos q d z, column-odd k.width pos (q + 1) 0 n, f) (down d q l)
  to_row q d h l false e =
      let n : q % 2 ≡ 0 → ⊥ = eqb-false (q % 2) 0 e in
      let z : (q + 1) % 2 ≡ 0 = omega (arith, n) in
      let f : k.width - 1 - d ≡ 0 = omega arith in
      rw (column-odd k.width pos q d n, column-even k.width pos (q + 1) 0 z, f) (down 0 q l)

  -- byte i leads from the pixel after i moves to that after i + 1
  pub turn-moves : (i : ℕ) → i + 1 < pixels k →
      move k (column_after k.width i) (i / k.width) (turn k.width i) ≡ To (column_after k.width (i + 1)) ((i + 1) / k.width)
  unfolding turn
  turn-moves i l = by (eqb ((i + 1) % k.width) 0) refl
    where
      by : (b : Bool) → eqb ((i + 1) % k.width) 0 ≡ b →
          move k (column_after k.width i) (i / k.width) (if b then 2 else (i / k.width) % 2) ≡ To (column_after k.width (i + 1))
          ((i + 1) / k.width)
      by true e =
          let z : (i + 1) % k.width ≡ 0 = eqb-true ((i + 1) % k.width) 0 e in
          let full : i % k.width + 1 ≡ k.width = ends k.width pos i z in
          let n = next_row k.width pos i full in
          let q : i / k.width + 1 < k.height =
          rw n.0 at
          ((div-lt_iff_lt-mul {k = k.width} {x = i + 1} {y = k.height} pos).1
          (subst (λ (m : ℕ). i + 1 < m) (mul_comm k.width k.height) l)) in
          rw (n.0, n.1) (to_row (i / k.width) (i % k.width) full q _ refl)
      by false e =
          let z : (i + 1) % k.width ≡ 0 → ⊥ = eqb-false ((i + 1) % k.width) 0 e in
          let more : i % k.width + 1 < k.width = goes k.width pos i z in
          let n = next-in k.width pos i more in
          rw (n.0, n.1) (in-row (i / k.width) (i % k.width) more _ refl)

-- ---- the list
pub serpentine-length : (k : Settings) → length (serpentine k) ≡ pixels k - 1
unfolding serpentine
serpentine-length k = length-tabulate _ (turn k.width)

pub serpentine-byte : (k : Settings) (i : ℕ) → i + 1 < pixels k → get_or (serpentine k) i 0 ≡ turn k.width i
unfolding serpentine
serpentine-byte k i h = get_d_tabulate (pixels k - 1) (turn k.width) i 0 (omega arith)

-- ---- the walk: at a pixel, having answered there
pub record At (p : Frame) (x : State) (s t : ℕ) : Type 0 where
  pub column : x.column ≡ s
  pub row : x.row ≡ t
  pub answer : x.answer ≡ answer p s t

pub at-arrive : (way : Way) (p : Frame) (s t c n : ℕ) → At p (arrive way p s t c n) s t
at-arrive way p s t c n =
    record { column = arrive-column way p s t c n; row = arrive-row way p s t c n; answer = arrive-answer way p s t c n }

pub at_turn : (p : Frame) (x : State) (i : ℕ) → 0 < p.set.width → i + 1 < pixels p.set →
    At p x (column_after p.set.width i) (i / p.set.width)
    → At p (step p x (turn p.set.width i)) (column_after p.set.width (i + 1)) ((i + 1) / p.set.width)
at_turn p x i pos h a =
    let w = p.set.width in
    let m : move p.set x.column x.row (turn w i) ≡ To (column_after w (i + 1)) ((i + 1) / w) =
    rw (a.column, a.row) (turn-moves p.set pos i h) in
    subst (λ (y : State). At p y (column_after w (i + 1)) ((i + 1) / w)) (sym (step-to p x (turn w i) _ _ m))
    (at-arrive x.way p _ _ x.cut x.shifts)

-- it begins at the first pixel
pub serpentine-begins : (way : Way) {p : Frame} → FrameLimits p → At p (start way p 0 0) (column_after p.set.width 0) (0 / p.set.width)
serpentine-begins way {p} g =
    let w = p.set.width in
    let e : 0 / w ≡ 0 = div-eq_of_lt g.sound.width_low in
    let f : 0 % w ≡ 0 = mod-eq_of_lt g.sound.width_low in
    rw (e, f, column-even w g.sound.width_low 0 0 refl) (at-arrive way p 0 0 0 0)

pub serpentine-at : (way : Way) {p : Frame} → FrameLimits p → (i : ℕ) → i < pixels p.set
    → At p (walk_end way p 0 0 (take i (serpentine p.set))) (column_after p.set.width i) (i / p.set.width)
unfolding walk_end after
serpentine-at way g zero h = serpentine-begins way g
serpentine-at way {p} g (suc i) h =
    let w = p.set.width in
    let k = p.set in
    let l : i < length (serpentine k) = omega (arith, serpentine-length k) in
    let x = after p (start way p 0 0) (take i (serpentine k)) in
    let e : after p (start way p 0 0) (take (suc i) (serpentine k)) ≡ step p x (turn w i) =
    after_next p (start way p 0 0) (serpentine k) i l ∙ ap (step p x) (serpentine-byte k i (omega arith)) in
    let j : i + 1 ≡ suc i = omega arith in
    subst (λ (y : State). At p y (column_after w (suc i)) (suc i / w)) (sym e)
    (subst (λ (n : ℕ). At p (step p x (turn w i)) (column_after w n) (n / w)) j
    (at_turn p x i g.sound.width_low (omega arith) (serpentine-at way g i (omega arith))))

-- its answers: every one of its moves is made
pub serpentine-answers : {p : Frame} → FrameLimits p → (i : ℕ) → i < pixels p.set
    → get_or (walk_answers p 0 0 (serpentine p.set)) i 0 ≡ answer p (column_after p.set.width i) (i / p.set.width)
unfolding walk_answers walk_end
serpentine-answers {p} g i h =
    get_or-answers p (start Joint p 0 0) (serpentine p.set) i (omega (arith, serpentine-length p.set)) ∙ (serpentine-at Joint g i h).answer

-- ---- the plane
pub filtered-at : (p : Frame) (q : ℕ) → q < pixels p.set → get_or (filtered p) q 0 ≡ answer p (q % p.set.width) (q / p.set.width)
unfolding filtered
filtered-at p q h = get_d_tabulate (pixels p.set) (λ k. answer p (k % p.set.width) (k / p.set.width)) q 0 h

pub visited-low : (k : Settings) → 0 < k.width → (i : ℕ) → i < pixels k → visited k.width i < pixels k
visited-low k pos i h =
    subst (λ (m : ℕ). visited k.width i < m) (mul_comm k.height k.width)
    (visited-lt k.width pos k.height i (subst (λ (m : ℕ). i < m) (mul_comm k.width k.height) h))

-- answer i of the walk is the plane's number at the pixel then visited; `visited-twice` says that each pixel is visited once
pub filtered-walk : {p : Frame} → FrameLimits p → (i : ℕ) → i < pixels p.set
    → get_or (filtered p) (visited p.set.width i) 0 ≡ get_or (walk_answers p 0 0 (serpentine p.set)) i 0
filtered-walk {p} g i h =
    let w = p.set.width in
    filtered-at p (visited w i) (visited-low p.set g.sound.width_low i h)
    ∙ ap₂ (answer p) (visited-mod w g.sound.width_low i) (visited-div w g.sound.width_low i) ∙ sym (serpentine-answers g i h)
