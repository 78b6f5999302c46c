-- The walk: where each byte leads, what each place of the answers holds, that the walk stays inside the picture, its marks, its cut and its shifts.
-- Assumes nothing.
use mathlib.Core.Path.{◌≡◌, refl, sym, ap, ap₂, ◌∙◌, subst}
use mathlib.Core.Bool.{Bool, true, false}
use mathlib.Core.Logic.{◌⊎◌, inl, inr, ◌↔◌}
use mathlib.Core.List.{List, [], ◌∷◌}
use Prim.Native.Nat.{ℕ, zero, suc, ◌+◌, ◌-◌, ◌*◌, ◌/◌, ◌%◌, ◌≤◌, ◌<◌}
use native.Mathlib.Nat.{le_refl, add-zero, zero-add}
use native.Mathlib.Omega.{arith}
use lib.Dec.{ltb, eqb}
use lib.ListN.{length, get_or, take}
use lib.Seq.{take-suc, take-length}
use borrow.Author.Tests.{ltb-true, eqb-true, eqb-false}
use Rattle.std.specs.Prelude.{if◌then◌else◌}
use Rattle.spec.specs.Base.{fold, sum}
use Rattle.spec.specs.declared.Settings.{Settings}
use Rattle.spec.specs.declared.Way.{Way}
use Rattle.spec.specs.declared.Way.TheVariants.{Joint, Columns, Chain, Coarse}
use Rattle.spec.specs.Frame.{Frame, no_reading}
use Rattle.spec.specs.Window.{empty}
use Rattle.spec.specs.Median.{median, answer, LevelOrNone}
use Rattle.spec.specs.Weight.{monotone}
use Rattle.spec.specs.Walk.{
  State,
  by_blocks,
  shifts_to,
  adds,
  next_cut,
  arrive,
  to_if,
  move,
  follow,
  step,
  after,
  answers,
  start,
  walk_end,
  walk_answers,
  added,
  added_at,
}
use Rattle.spec.specs.declared.Move.{Move}
use Rattle.spec.specs.declared.Move.TheVariants.{To, Nowhere}
use Rattle.spec.proofs.Steps.{after_one, length-answers, get_or-answers}
use Rattle.spec.specs.Checks.{SettingsLimits}
use Rattle.spec.proofs.Limits.{FrameLimits, Pixel}
use Rattle.spec.proofs.Totals.{median-low, answer-empty, answer-low}

-- ---- where a byte leads: inside the picture by one of the four moves, or nowhere, with 65,534 for these and 65,533 for another byte
abbrev pub Fine : Settings → ℕ → Move → Type 0
Fine k b (To s t) = (s < k.width) × (t < k.height) × (b ≤ 3)
Fine k b (Nowhere m) = ((m ≡ 65534) × (b ≤ 3)) ⊎ ((m ≡ 65533) × (3 < b))

within-fine : (k : Settings) (b : ℕ) (c : Bool) (s t : ℕ) → (c ≡ true → (s < k.width) × (t < k.height)) → b ≤ 3 → Fine k b (to_if c s t)
within-fine k b true s t h l = let q = h refl in (q.0, q.1, l)
within-fine k b false s t h l = inl (refl, l)

pub move-fine : (k : Settings) (s t b : ℕ) → s < k.width → t < k.height → Fine k b (move k s t b)
unfolding move
move-fine k s t b hs ht = go (eqb b 0) refl (eqb b 1) refl (eqb b 2) refl (eqb b 3) refl
  where
    go : (c₀ : Bool) → eqb b 0 ≡ c₀ → (c₁ : Bool) → eqb b 1 ≡ c₁ → (c₂ : Bool) → eqb b 2 ≡ c₂ → (c₃ : Bool) → eqb b 3 ≡ c₃
        → Fine k b (if c₀ then to_if (ltb (s + 1) k.width) (s + 1) t else if c₁ then to_if (ltb 0 s) (s - 1) t
        else if c₂ then to_if (ltb (t + 1) k.height) s (t + 1) else if c₃ then to_if (ltb 0 t) s (t - 1) else Nowhere 65533)
    go true e c₁ e₁ c₂ e₂ c₃ e₃ = within-fine k b (ltb (s + 1) k.width) (s + 1) t (λ d. (ltb-true _ _ d, ht)) (omega (arith, eqb-true b 0 e))
    go false e true e₁ c₂ e₂ c₃ e₃ = within-fine k b (ltb 0 s) (s - 1) t (λ d. (omega arith, ht)) (omega (arith, eqb-true b 1 e₁))
    go false e false e₁ true e₂ c₃ e₃ =
        within-fine k b (ltb (t + 1) k.height) s (t + 1) (λ d. (hs, ltb-true _ _ d)) (omega (arith, eqb-true b 2 e₂))
    go false e false e₁ false e₂ true e₃ = within-fine k b (ltb 0 t) s (t - 1) (λ d. (hs, omega arith)) (omega (arith, eqb-true b 3 e₃))
    go false e false e₁ false e₂ false e₃ =
        let n0 : b ≡ 0 → ⊥ = eqb-false b 0 e in
        let n1 : b ≡ 1 → ⊥ = eqb-false b 1 e₁ in
        let n2 : b ≡ 2 → ⊥ = eqb-false b 2 e₂ in
        let n3 : b ≡ 3 → ⊥ = eqb-false b 3 e₃ in
        inr (refl, omega arith)

-- ---- arriving: the pixel is the window's; what cut, shift count and answer become
pub arrive-way : (way : Way) (p : Frame) (s t c n : ℕ) → (arrive way p s t c n).way ≡ way
unfolding arrive
arrive-way way p s t c n = refl

pub arrive-column : (way : Way) (p : Frame) (s t c n : ℕ) → (arrive way p s t c n).column ≡ s
unfolding arrive
arrive-column way p s t c n = refl

pub arrive-row : (way : Way) (p : Frame) (s t c n : ℕ) → (arrive way p s t c n).row ≡ t
unfolding arrive
arrive-row way p s t c n = refl

pub arrive-cut : (way : Way) (p : Frame) (s t c n : ℕ) → (arrive way p s t c n).cut ≡ next_cut p s t c
unfolding arrive
arrive-cut way p s t c n = refl

pub arrive-shifts : (way : Way) (p : Frame) (s t c n : ℕ) → (arrive way p s t c n).shifts ≡ n + adds way p s t c
unfolding arrive
arrive-shifts way p s t c n = refl

pub arrive-answer : (way : Way) (p : Frame) (s t c n : ℕ) → (arrive way p s t c n).answer ≡ answer p s t
unfolding arrive
arrive-answer way p s t c n = refl

-- by whether there is a reading
pub cut-empty : (p : Frame) (s t c : ℕ) → empty p s t ≡ true → next_cut p s t c ≡ c
unfolding next_cut
cut-empty p s t c e = rw e refl

pub cut-read : (p : Frame) (s t c : ℕ) → empty p s t ≡ false → next_cut p s t c ≡ median p s t
unfolding next_cut
cut-read p s t c e = rw e refl

pub adds-empty : (way : Way) (p : Frame) (s t c : ℕ) → empty p s t ≡ true → adds way p s t c ≡ 0
unfolding adds
adds-empty way p s t c e = rw e refl

pub adds-read : (way : Way) (p : Frame) (s t c : ℕ) → empty p s t ≡ false
    → adds way p s t c ≡ (if monotone p s t then shifts_to (by_blocks way) (median p s t) c else median p s t)
unfolding adds
adds-read way p s t c e = rw e refl

pub arrive-empty : (way : Way) (p : Frame) (s t c n : ℕ) → empty p s t ≡ true
    → arrive way p s t c n ≡ record { way = way; column = s; row = t; cut = c; shifts = n; answer = no_reading }
unfolding arrive
arrive-empty way p s t c n e = rw (cut-empty p s t c e, adds-empty way p s t c e, add-zero n, answer-empty p s t e) refl

-- ---- one byte
pub step-to : (p : Frame) (x : State) (b s t : ℕ) → move p.set x.column x.row b ≡ To s t
    → step p x b ≡ arrive x.way p s t x.cut x.shifts
unfolding step follow
step-to p x b s t e = rw e refl

pub step-nowhere : (p : Frame) (x : State) (b m : ℕ) → move p.set x.column x.row b ≡ Nowhere m
    → step p x b ≡ record { way = x.way; column = x.column; row = x.row; cut = x.cut; shifts = x.shifts; answer = m }
unfolding step follow
step-nowhere p x b m e = rw e refl

-- ---- the walk's state: inside the picture, its cut a level, its shift count at most 1,023 for each window
pub record StateBounded (p : Frame) (x : State) (n : ℕ) : Type 0 where
  pub good : FrameLimits p
  pub in-column : x.column < p.set.width
  pub in-row : x.row < p.set.height
  pub cut_low : x.cut < p.set.levels
  pub shifts-low : x.shifts ≤ n * 1023

shift-low : (blocks b : Bool) (m c l : ℕ) → m < l → c < l → l ≤ 1024 → (if b then shifts_to blocks m c else m) ≤ 1023
shift-low false true m c l h k z = omega arith
shift-low true true m c l h k z = omega arith
shift-low blocks false m c l h k z = omega arith

adds-low : {p : Frame} {s t : ℕ} → Pixel p s t → (way : Way) (c : ℕ) → c < p.set.levels → adds way p s t c ≤ 1023
adds-low {p} {s} {t} w way c h = go (empty p s t) refl
  where
    go : (b : Bool) → empty p s t ≡ b → adds way p s t c ≤ 1023
    go true e = omega (arith, adds-empty way p s t c e)
    go false e =
        subst (λ (n : ℕ). n ≤ 1023) (sym (adds-read way p s t c e))
        (shift-low (by_blocks way) (monotone p s t) (median p s t) c p.set.levels (median-low w) h w.good.sound.levels_high)

cut_low : {p : Frame} {s t : ℕ} → Pixel p s t → (c : ℕ) → c < p.set.levels → next_cut p s t c < p.set.levels
cut_low {p} {s} {t} w c h = go (empty p s t) refl
  where
    go : (b : Bool) → empty p s t ≡ b → next_cut p s t c < p.set.levels
    go true e = subst (λ (n : ℕ). n < p.set.levels) (sym (cut-empty p s t c e)) h
    go false e = subst (λ (n : ℕ). n < p.set.levels) (sym (cut-read p s t c e)) (median-low w)

pub bounded-arrive : {p : Frame} {s t : ℕ} → Pixel p s t → (way : Way) (c n k : ℕ) → c < p.set.levels → n ≤ k * 1023 →
    StateBounded p (arrive way p s t c n) (suc k)
unfolding arrive
bounded-arrive w way c n k hc hn =
    record {
      good = w.good;
      in-column = w.in-column;
      in-row = w.in-row;
      cut_low = cut_low w c hc;
      shifts-low = let q = adds-low w way c hc in omega (arith, q);
    }

pub bounded-start : {p : Frame} {s t : ℕ} → Pixel p s t → (way : Way) → StateBounded p (start way p s t) 1
bounded-start w way = bounded-arrive w way 0 0 0 (omega (arith, w.good.sound.levels_low)) (omega arith)

pub bounded-step : {p : Frame} {x : State} {n : ℕ} → StateBounded p x n → (b : ℕ) → StateBounded p (step p x b) (suc n)
bounded-step {p} {x} {n} h b = go (move p.set x.column x.row b) refl (move-fine p.set x.column x.row b h.in-column h.in-row)
  where
    go : (m : Move) → move p.set x.column x.row b ≡ m → Fine p.set b m → StateBounded p (step p x b) (suc n)
    go (To s t) e f =
        subst (λ (y : State). StateBounded p y (suc n)) (sym (step-to p x b s t e))
        (bounded-arrive (record { good = h.good; in-column = f.0; in-row = f.1 }) x.way x.cut x.shifts n h.cut_low h.shifts-low)
    go (Nowhere m) e f =
        subst (λ (y : State). StateBounded p y (suc n)) (sym (step-nowhere p x b m e))
        (record { good = h.good; in-column = h.in-column; in-row = h.in-row; cut_low = h.cut_low; shifts-low = omega (arith, h.shifts-low) })

pub bounded-after : {p : Frame} {x : State} {n : ℕ} → StateBounded p x n → (bs : List ℕ) → StateBounded p (after p x bs) (n + length bs)
unfolding after
bounded-after {p} {x} {n} h [] = let e : n + 0 ≡ n = omega arith in rw e h
bounded-after {p} {x} {n} h (b ∷ bs) = let e : n + suc (length bs) ≡ suc n + length bs = omega arith in rw e (bounded-after {x = step p x b} {n = suc n} (bounded-step h b) bs)

-- ---- what a byte's answer says
pub step-level : (p : Frame) (x : State) (b s t : ℕ) → move p.set x.column x.row b ≡ To s t → (step p x b).answer ≡ answer p s t
step-level p x b s t e = rw (step-to p x b s t e) (arrive-answer x.way p s t x.cut x.shifts)

pub step-mark : (p : Frame) (x : State) (b m : ℕ) → move p.set x.column x.row b ≡ Nowhere m → (step p x b).answer ≡ m
step-mark p x b m e = rw (step-nowhere p x b m e) refl

-- a level, below 1,024, or no reading where the byte moves; where it does not, 65,534 for a move off the picture and 65,533 for another byte
abbrev pub Told : Frame → State → ℕ → Move → Type 0
Told p x b (To s t) = ((step p x b).answer ≡ answer p s t) × LevelOrNone (answer p s t) × (s < p.set.width) × (t < p.set.height) × (b ≤ 3)
Told p x b (Nowhere m) = (((step p x b).answer ≡ 65534) × (b ≤ 3)) ⊎ (((step p x b).answer ≡ 65533) × (3 < b))

pub told : {p : Frame} {x : State} {n : ℕ} → StateBounded p x n → (b : ℕ) → Told p x b (move p.set x.column x.row b)
told {p} {x} {n} h b = go (move p.set x.column x.row b) refl (move-fine p.set x.column x.row b h.in-column h.in-row)
  where
    go : (m : Move) → move p.set x.column x.row b ≡ m → Fine p.set b m → Told p x b m
    go (To s t) e f = (
      step-level p x b s t e,
      level-of (answer-low (record { good = h.good; in-column = f.0; in-row = f.1 })),
      f.0,
      f.1,
      f.2,
    )
      where
        level-of : (answer p s t < p.set.levels) ⊎ (answer p s t ≡ no_reading) → LevelOrNone (answer p s t)
        level-of (inl l) = inl (omega (arith, h.good.sound.levels_high))
        level-of (inr d) = inr d
    go (Nowhere m) e (inl f) = inl (step-mark p x b m e ∙ f.0, f.1)
    go (Nowhere m) e (inr f) = inr (step-mark p x b m e ∙ f.0, f.1)

-- so a mark is exactly where a byte moves nothing
pub record Marks (p : Frame) (x : State) (b : ℕ) : Type 0 where
  pub off : ((step p x b).answer ≡ 65534) ↔ (move p.set x.column x.row b ≡ Nowhere 65534)
  pub other : ((step p x b).answer ≡ 65533) ↔ (3 < b)
  pub level : LevelOrNone (step p x b).answer ↔ ((s : ℕ) × (t : ℕ) × (move p.set x.column x.row b ≡ To s t))

apart-moves : {A : Type 0} {s t m : ℕ} → To s t ≡ Nowhere m → A
apart-moves {A} {s} {t} {m} e = absurd (subst (λ (q : Move). Is q) e tt)
  where
    Is : Move → Type 0
    Is (To s t) = Unit {0}
    Is (Nowhere m) = ⊥

-- a mark is neither a level nor no reading
no-mark : (m : ℕ) → 1024 ≤ m → m < no_reading → {n : ℕ} → LevelOrNone n → n ≡ m → ⊥
no-mark m h l (inl a) e = omega arith
no-mark m h l (inr a) e = omega arith

pub marks : {p : Frame} {x : State} {n : ℕ} → StateBounded p x n → (b : ℕ) → Marks p x b
marks {p} {x} {n} h b =
    go (move p.set x.column x.row b) refl (told h b) (move-fine p.set x.column x.row b h.in-column h.in-row)
  where
    go : (m : Move) → move p.set x.column x.row b ≡ m → Told p x b m → Fine p.set b m → Marks p x b
    go (To s t) e f g =
        record {
          off = (λ d. absurd (no-mark 65534 (omega arith) (omega arith) f.1 (sym f.0 ∙ d)), λ d. apart-moves (sym e ∙ d));
          other = (λ d. absurd (no-mark 65533 (omega arith) (omega arith) f.1 (sym f.0 ∙ d)), λ d. absurd (omega (arith, f.4)));
          level = (λ d. (s, t, e), λ d. subst LevelOrNone (sym f.0) f.1);
        }
    go (Nowhere m) e (inl f) g =
        record {
          off = (λ d. e ∙ ap Nowhere (sym (step-mark p x b m e) ∙ f.0), λ d. f.0);
          other = (λ d. absurd (omega (arith, f.0)), λ d. absurd (omega (arith, f.1)));
          level = (λ d. absurd (no-mark _ (omega arith) (omega arith) d f.0), λ d. apart-moves (sym d.2 ∙ e));
        }
    go (Nowhere m) e (inr f) g =
        record {
          off = (λ d. absurd (omega (arith, f.0)), λ d. absurd (omega (arith, f.0, step-mark p x b 65534 d)));
          other = (λ d. f.1, λ d. f.0);
          level = (λ d. absurd (no-mark _ (omega arith) (omega arith) d f.0), λ d. apart-moves (sym d.2 ∙ e));
        }

-- ---- place by place
pub answers-first : (p : Frame) (x : State) (bs : List ℕ) → get_or (answers p x bs) 0 0 ≡ x.answer
unfolding answers
answers-first p x [] = refl
answers-first p x (b ∷ bs) = refl

pub after_next : (p : Frame) (x : State) (bs : List ℕ) (j : ℕ) → j < length bs →
    after p x (take (suc j) bs) ≡ step p (after p x (take j bs)) (get_or bs j 0)
after_next p x bs j h = ap (after p x) (take-suc bs j 0 h) ∙ after_one p x (take j bs) (get_or bs j 0)

pub answers_next : (p : Frame) (x : State) (bs : List ℕ) (j : ℕ) → j < length bs
    → get_or (answers p x bs) (suc j) 0 ≡ (step p (after p x (take j bs)) (get_or bs j 0)).answer
answers_next p x bs j h = get_or-answers p x bs (suc j) h ∙ ap (λ (y : State). y.answer) (after_next p x bs j h)

-- ---- the answers are the same by every way: where a byte leads and what it answers asks neither for the cut point nor for the shift count
pub record Alike (x y : State) : Type 0 where
  pub column : x.column ≡ y.column
  pub row : x.row ≡ y.row
  pub answer : x.answer ≡ y.answer

pub alike-arrive : (way way' : Way) (p : Frame) (s t c c' n n' : ℕ) → Alike (arrive way p s t c n) (arrive way' p s t c' n')
unfolding arrive
alike-arrive way way' p s t c c' n n' = record { column = refl; row = refl; answer = refl }

alike-step : (p : Frame) (x y : State) → Alike x y → (b : ℕ) → Alike (step p x b) (step p y b)
alike-step p x y h b = go (move p.set x.column x.row b) refl
  where
    other : (m : Move) → move p.set x.column x.row b ≡ m → move p.set y.column y.row b ≡ m
    other m e = rw (h.column, h.row) at e

    go : (m : Move) → move p.set x.column x.row b ≡ m → Alike (step p x b) (step p y b)
    go (To s t) e =
        rw (step-to p x b s t e, step-to p y b s t (other (To s t) e))
        (alike-arrive x.way y.way p s t x.cut y.cut x.shifts y.shifts)
    go (Nowhere m) e =
        rw (step-nowhere p x b m e, step-nowhere p y b m (other (Nowhere m) e)) (record { column = h.column; row = h.row; answer = refl })

alike-answers : (p : Frame) (x y : State) → Alike x y → (bs : List ℕ) → answers p x bs ≡ answers p y bs
unfolding answers
alike-answers p x y h [] = ap (λ (n : ℕ). n ∷ []) h.answer
alike-answers p x y h (b ∷ bs) =
    ap₂ (λ (n : ℕ) (l : List ℕ). n ∷ l) h.answer (alike-answers p (step p x b) (step p y b) (alike-step p x y h b) bs)

pub walk-answers : (way : Way) (p : Frame) (s t : ℕ) (bs : List ℕ) → answers p (start way p s t) bs ≡ walk_answers p s t bs
unfolding walk_answers
walk-answers way p s t bs = alike-answers p (start way p s t) (start Joint p s t) (alike-arrive way Joint p s t 0 0 0 0) bs

pub walk_first : (p : Frame) (s t : ℕ) (bs : List ℕ) → get_or (walk_answers p s t bs) 0 0 ≡ answer p s t
unfolding walk_answers
walk_first p s t bs = answers-first p (start Joint p s t) bs ∙ arrive-answer Joint p s t 0 0

pub walk-next : (way : Way) (p : Frame) (s t : ℕ) (bs : List ℕ) (j : ℕ) → j < length bs
    → get_or (walk_answers p s t bs) (suc j) 0 ≡ (step p (walk_end way p s t (take j bs)) (get_or bs j 0)).answer
unfolding walk_end
walk-next way p s t bs j h =
    ap (λ (l : List ℕ). get_or l (suc j) 0) (sym (walk-answers way p s t bs)) ∙ answers_next p (start way p s t) bs j h

pub walk-bounded : {p : Frame} {s t : ℕ} → Pixel p s t → (way : Way) (bs : List ℕ) → StateBounded p (walk_end way p s t bs) (1 + length bs)
unfolding walk_end
walk-bounded w way bs = bounded-after (bounded-start w way) bs

pub walk-length : (p : Frame) (s t : ℕ) (bs : List ℕ) → length (walk_answers p s t bs) ≡ suc (length bs)
unfolding walk_answers
walk-length p s t bs = length-answers p (start Joint p s t) bs

-- ---- the shift count is the sum of what the windows add
pub step-shifts : (p : Frame) (x : State) (b : ℕ) → (step p x b).shifts ≡ x.shifts + added p x (move p.set x.column x.row b)
unfolding added
step-shifts p x b = go (move p.set x.column x.row b) refl
  where
    go : (m : Move) → move p.set x.column x.row b ≡ m → (step p x b).shifts ≡ x.shifts + added p x m
    go (To s t) e = ap (λ (y : State). y.shifts) (step-to p x b s t e) ∙ arrive-shifts x.way p s t x.cut x.shifts
    go (Nowhere m) e = ap (λ (y : State). y.shifts) (step-nowhere p x b m e) ∙ sym (add-zero x.shifts)

next : (p : Frame) (x : State) (bs : List ℕ) (n : ℕ) → suc n ≤ length bs →
    (after p x (take (suc n) bs)).shifts ≡ (after p x (take n bs)).shifts + added_at p x bs n
unfolding added_at
next p x bs n h = ap (λ (y : State). y.shifts) (after_next p x bs n h) ∙ step-shifts p (after p x (take n bs)) (get_or bs n 0)

pub after-shifts : (p : Frame) (x : State) (bs : List ℕ) (n : ℕ) → n ≤ length bs →
    (after p x (take n bs)).shifts ≡ x.shifts + sum (added_at p x bs) 0 n
unfolding after fold
after-shifts p x bs zero h = sym (add-zero x.shifts)
after-shifts p x bs (suc n) h =
    let one : (after p x (take (suc n) bs)).shifts ≡ (after p x (take n bs)).shifts + added_at p x bs n = next p x bs n h in
    let ih : (after p x (take n bs)).shifts ≡ x.shifts + sum (added_at p x bs) 0 n = after-shifts p x bs n (omega arith) in
    let z : added_at p x bs (0 + n) ≡ added_at p x bs n = ap (added_at p x bs) (zero-add n) in
    omega arith

-- the walk's shift count: the start window's, and each byte's
pub walk-shifts : (way : Way) (p : Frame) (s t : ℕ) (bs : List ℕ)
    → (walk_end way p s t bs).shifts ≡ adds way p s t 0 + sum (added_at p (start way p s t) bs) 0 (length bs)
unfolding walk_end
walk-shifts way p s t bs =
    ap (λ (l : List ℕ). (after p (start way p s t) l).shifts) (sym (take-length bs))
    ∙ after-shifts p (start way p s t) bs (length bs) (le_refl (length bs))
    ∙ ap (λ (n : ℕ). n + sum (added_at p (start way p s t) bs) 0 (length bs)) (arrive-shifts way p s t 0 0 ∙ zero-add (adds way p s t 0))

-- ---- ways that count by one rule have the same cut point and the same shift count everywhere
pub record SameCount (x y : State) : Type 0 where
  pub rule : by_blocks x.way ≡ by_blocks y.way
  pub column : x.column ≡ y.column
  pub row : x.row ≡ y.row
  pub cut : x.cut ≡ y.cut
  pub shifts : x.shifts ≡ y.shifts

same-arrive : (way way' : Way) → by_blocks way ≡ by_blocks way' → (p : Frame) (s t c n : ℕ) → SameCount (arrive way p s t c n) (arrive way' p s t c n)
unfolding arrive adds
same-arrive way way' e p s t c n = record {
  rule = e;
  column = refl;
  row = refl;
  cut = refl;
  shifts = ap (λ (b : Bool). n + (if empty p s t then 0 else if monotone p s t then shifts_to b (median p s t) c else median p s t)) e;
}

same_step : (p : Frame) (x y : State) → SameCount x y → (b : ℕ) → SameCount (step p x b) (step p y b)
same_step p x y h b = go (move p.set x.column x.row b) refl
  where
    other : (m : Move) → move p.set x.column x.row b ≡ m → move p.set y.column y.row b ≡ m
    other m e = rw (h.column, h.row) at e

    go : (m : Move) → move p.set x.column x.row b ≡ m → SameCount (step p x b) (step p y b)
    go (To s t) e =
        rw (step-to p x b s t e, step-to p y b s t (other (To s t) e), h.cut, h.shifts)
        (same-arrive x.way y.way h.rule p s t y.cut y.shifts)
    go (Nowhere m) e =
        rw (step-nowhere p x b m e, step-nowhere p y b m (other (Nowhere m) e))
        (record { rule = h.rule; column = h.column; row = h.row; cut = h.cut; shifts = h.shifts })

same_after : (p : Frame) (x y : State) → SameCount x y → (bs : List ℕ) → SameCount (after p x bs) (after p y bs)
unfolding after
same_after p x y h [] = h
same_after p x y h (b ∷ bs) = same_after p (step p x b) (step p y b) (same_step p x y h b) bs

pub walk_same : (way way' : Way) → by_blocks way ≡ by_blocks way' → (p : Frame) (s t : ℕ) (bs : List ℕ) →
    (walk_end way p s t bs).shifts ≡ (walk_end way' p s t bs).shifts
unfolding walk_end
walk_same way way' e p s t bs = (same_after p (start way p s t) (start way' p s t) (same-arrive way way' e p s t 0 0) bs).shifts
