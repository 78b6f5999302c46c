-- The loop over the files: the parts made so far, and those that are left. One law over the buffer serves counts, words and answers.
-- Assumes nothing.
use Prim.Native.Nat.{ℕ, suc, ◌+◌, ◌≤◌, ◌<◌}
use mathlib.Core.Path.{◌≡◌, sym, ap, ap₂, ◌∙◌, subst}
use mathlib.Core.List.{List, [], ◌∷◌, ◌++◌, map, append_assoc}
use native.Mathlib.Omega.{arith}
use lib.ListN.{length, get_or, take, drop, length-append, length-drop, take-append-drop}
use lib.Seq.{length-take-le, take_at, drop_at}
use Rattle.spec.specs.Refusal.{accepted}
use Rattle.spec.specs.Checks.{verdict}
use Rattle.spec.specs.Cameras.{files_in, total, counts_room, words_room, pixels_in, verdicts, counts_part, words_part, answers_part, end_to_end}
use Rattle.spec.proofs.Checks.{both-accepted}
use Rattle.ice_prefix.specs.Prefix.{Parts}
use Rattle.cameras_checks.proofs.Batch.{left_step, total_left}
use Rattle.cameras_checks.proofs.Reading.{rest, file, rest-step, rest-none, verdict-step}
use Rattle.cameras.specs.declared.Place.{Place}
use Rattle.cameras.specs.Parts.{RoomFrom, with_part, PartMade, Servable, AllMade}

-- ---- one buffer
module _ (room : List ℕ → ℕ) (part : List ℕ → ℕ → List ℕ → List ℕ) where
  -- the parts of the files fs, with the tallies ds, are still to be made from number c on, and then the buffer is what is due
  pub record Left (fs : List (List ℕ)) (ds : List ℕ) (c : ℕ) (held due : List ℕ) : Type 0 where
    pub fits : c + total (map room fs) ≤ length held
    pub comes : take c held ++ end_to_end room part fs ds (drop c held) ≡ due

  -- a part that was lent as long as it comes back has its room's length
  part-long : (f : List ℕ) (d c : ℕ) (held new : List ℕ) → c + room f ≤ length held → new ≡ with_part room part f d c held → length new ≡ length held
      → length (part f d (drop c held)) ≡ room f
  part-long f d c held new h e l =
      omega (
        arith,
        h,
        l,
        ap length e,
        length-append (take c held) (part f d (drop c held) ++ drop (room f) (drop c held)),
        length-append (part f d (drop c held)) (drop (room f) (drop c held)),
        length-take-le c held (omega (arith, h)),
        length-drop (room f) (drop c held),
        length-drop c held,
      )

  pub left-more : (f : List ℕ) (fs : List (List ℕ)) (d : ℕ) (ds : List ℕ) (c : ℕ) (held new due : List ℕ) → Left (f ∷ fs) (d ∷ ds) c held due
      → new ≡ with_part room part f d c held → length new ≡ length held → Left fs ds (c + room f) new due
  unfolding end_to_end total
  left-more f fs d ds c held new due w e l =
      let mine = part f d (drop c held) in
      let rest = drop (room f) (drop c held) in
      let long : length (take c held ++ mine) ≡ c + room f =
      omega (
        arith,
        length-append (take c held) mine,
        length-take-le c held (omega (arith, w.fits)),
        part-long f d c held new (omega (arith, w.fits)) e l,
      ) in
      let e' : new ≡ (take c held ++ mine) ++ rest = e ∙ sym (append_assoc (take c held) mine rest) in
      record {
        fits = omega (arith, w.fits, l);
        comes =
            ap₂ (λ (x y : List ℕ). x ++ end_to_end room part fs ds y)
            (ap (take (c + room f)) e' ∙ take_at (take c held ++ mine) rest (c + room f) long)
            (ap (drop (c + room f)) e' ∙ drop_at (take c held ++ mine) rest (c + room f) long)
            ∙ append_assoc (take c held) mine (end_to_end room part fs ds rest) ∙ w.comes;
      }

  pub left_end : (ds : List ℕ) (c : ℕ) (held due : List ℕ) → Left [] ds c held due → held ≡ due
  unfolding end_to_end
  left_end ds c held due w = sym (take-append-drop c held) ∙ w.comes

-- ---- the three of them
module _ (b lengths tallies : List ℕ) (old : Parts) where
  abbrev all : List (List ℕ)
  all = files_in lengths b

  -- i files are served, which end at a byte, and the next one's parts begin at a place
  pub record Serving (held : Parts) (place : Place) (at i : ℕ) : Type 0 where
    pub here : at + total (drop i lengths) ≡ length b
    pub accepts : verdicts (rest b lengths i at) ≡ accepted
    pub low : (k : ℕ) → k < length (rest b lengths i at) → get_or tallies (i + k) 0 ≤ get_or (map pixels_in (rest b lengths i at)) k 0
    pub counts : Left counts_room counts_part (rest b lengths i at) (drop i tallies) place.counts held.counts
        (end_to_end counts_room counts_part all tallies old.counts)
    pub words : Left words_room words_part (rest b lengths i at) (drop i tallies) place.words held.words
        (end_to_end words_room words_part all tallies old.words)
    pub answers : Left pixels_in answers_part (rest b lengths i at) (drop i tallies) place.answers held.answers
        (end_to_end pixels_in answers_part all tallies old.answers)
    pub counts-long : length held.counts ≡ length old.counts
    pub words_long : length held.words ≡ length old.words
    pub answers-long : length held.answers ≡ length old.answers

  module _ (s : Servable b lengths tallies old) (held : Parts) (place : Place) (at i : ℕ) (w : Serving held place at i) (h : i < length lengths) where
    abbrev f : List ℕ
    f = file b lengths i at

    abbrev d : ℕ
    d = get_or tallies i 0

    abbrev later : List (List ℕ)
    later = rest b lengths (i + 1) (at + get_or lengths i 0)

    tally-first : drop i tallies ≡ d ∷ drop (i + 1) tallies
    tally-first = left_step tallies i (omega (arith, s.long, s.few))

    -- the next file: it is accepted, has room, and its tally is no more than its pixels
    pub next-accepted : verdict f ≡ accepted
    next-accepted = (both-accepted (verdict f) (verdicts later) (sym (verdict-step b lengths i at h) ∙ w.accepts)).0

    pub next_low : d ≤ pixels_in f
    next_low =
        let r = rest-step b lengths i at h in
        let some : 0 < length (rest b lengths i at) = rw r (omega arith) in
        let e : get_or (map pixels_in (rest b lengths i at)) 0 0 ≡ pixels_in f = ap (λ (q : List (List ℕ)). get_or (map pixels_in q) 0 0) r in
        let j : i + 0 ≡ i = omega arith in
        omega (arith, rw j at (w.low 0 some), e)

    one : (room : List ℕ → ℕ) → total (map room (rest b lengths i at)) ≡ room f + total (map room later)
    unfolding total
    one room = ap (λ (q : List (List ℕ)). total (map room q)) (rest-step b lengths i at h)

    pub next-room : RoomFrom f place held
    next-room =
        record {
          counts = omega (arith, w.counts.fits, one counts_room);
          words = omega (arith, w.words.fits, one words_room);
          answers = omega (arith, w.answers.fits, one pixels_in);
        }

    -- what is left begins with it; c' is where the next file's part begins
    one_on : (room : List ℕ → ℕ) (part : List ℕ → ℕ → List ℕ → List ℕ) (c c' : ℕ) (xs new due : List ℕ)
        → Left room part (rest b lengths i at) (drop i tallies) c xs due → new ≡ with_part room part f d c xs → length new ≡ length xs → c' ≡ c +
        room f
        → Left room part later (drop (i + 1) tallies) c' new due
    one_on room part c c' xs new due l e n q =
        subst (λ (k : ℕ). Left room part later (drop (i + 1) tallies) k new due) (sym q)
        (left-more room part f later d (drop (i + 1) tallies) c xs new due (rw (rest-step b lengths i at h, tally-first) at l) e n)

    pub serving-more : (new : Parts) (r : Place) → PartMade f d place held new r → length new.counts ≡ length held.counts
        → length new.words ≡ length held.words → length new.answers ≡ length held.answers → Serving new r (at + get_or lengths i 0) (i + 1)
    serving-more new r m lc lw la =
        record {
          here = omega (arith, total_left lengths i h, w.here);
          accepts = (both-accepted (verdict f) (verdicts later) (sym (verdict-step b lengths i at h) ∙ w.accepts)).1;
          low = λ k l. lower k l;
          counts = one_on counts_room counts_part place.counts r.counts _ _ _ w.counts m.counts lc m.next_counts;
          words = one_on words_room words_part place.words r.words _ _ _ w.words m.words lw m.next_words;
          answers = one_on pixels_in answers_part place.answers r.answers _ _ _ w.answers m.answers la m.next_answers;
          counts-long = lc ∙ w.counts-long;
          words_long = lw ∙ w.words_long;
          answers-long = la ∙ w.answers-long;
        }
      where
        lower : (k : ℕ) → k < length later → get_or tallies (i + 1 + k) 0 ≤ get_or (map pixels_in later) k 0
        lower k l =
            let r = rest-step b lengths i at h in
            let l' : suc k < length (rest b lengths i at) = rw r (omega arith) in
            let e : get_or (map pixels_in (rest b lengths i at)) (suc k) 0 ≡ get_or (map pixels_in later) k 0 =
            ap (λ (q : List (List ℕ)). get_or (map pixels_in q) (suc k) 0) r in
            let j : i + suc k ≡ i + 1 + k = omega arith in
            omega (arith, rw j at (w.low (suc k) l'), e)

  pub serving-end : (held : Parts) (place : Place) (at i : ℕ) → Serving held place at i → length lengths ≤ i → AllMade all tallies old held
  serving-end held place at i w h =
      let n = rest-none b lengths i at h in
      record {
        counts = left_end counts_room counts_part (drop i tallies) place.counts _ _ (rw n at w.counts);
        words = left_end words_room words_part (drop i tallies) place.words _ _ (rw n at w.words);
        answers = left_end pixels_in answers_part (drop i tallies) place.answers _ _ (rw n at w.answers);
      }
