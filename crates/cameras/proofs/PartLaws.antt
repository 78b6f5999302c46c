-- One file's parts: as lent before its first grant, else what its walk so far leaves.
-- Assumes nothing.
use Prim.Native.Nat.{ℕ, zero, suc, ◌+◌, ◌-◌, ◌*◌, ◌≤◌}
use mathlib.Core.Path.{◌≡◌, refl, ap, sym, ◌∙◌}
use mathlib.Core.List.{List, [], ◌++◌, append_assoc, append-nil}
use native.Mathlib.Omega.{arith}
use lib.ListN.{length, take, drop, length-take, length-drop, take-append-drop}
use lib.Seq.{drop-append-le, drop-drop, drop-length, take_all}
use borrow.Rule.Slice.PartMut.{put_mid}
use Rattle.spec.specs.declared.Plan.{Plan}
use Rattle.spec.specs.declared.Room.{Room}
use Rattle.spec.specs.declared.Way.TheVariants.{Joint}
use Rattle.spec.specs.Refusal.{accepted}
use Rattle.spec.specs.Frame.{frame_of, plan_of, settings_of, settings_in, pixels}
use Rattle.spec.specs.Checks.{verdict, Planned}
use Rattle.spec.specs.Walk.{walk_answers}
use Rattle.spec.specs.Filter.{serpentine}
use Rattle.spec.specs.Calls.{room_of, counts_of, words_of}
use Rattle.spec.specs.Cameras.{counts_room, words_room, pixels_in, walked_to, counts_part, words_part, answers_part}
use Rattle.spec.proofs.Checks.{passed}
use Rattle.ways.specs.Visit.{stores, StoresFit}
use Rattle.ice_prefix.specs.Prefix.{Parts, parts, Begun}
use Rattle.cameras_checks.proofs.Reading.{settings-planned}
use Rattle.cameras.specs.declared.Place.{Place}
use Rattle.cameras.specs.Parts.{RoomFrom, PartMade}

-- ---- what is known of an accepted file
pub planned-by : {f : List ℕ} {z : Plan} → verdict f ≡ accepted → z ≡ plan_of f → Planned f z
planned-by ok e = record { accepts = ok; plan = e; fits = tt }

pub trailer-in : (f : List ℕ) → verdict f ≡ accepted → 28 ≤ length f
trailer-in f ok = (passed f ok).long

module _ {f : List ℕ} {z : Plan} (k : Planned f z) (room : Room) (needs : room ≡ room_of Joint (settings_in z)) where
  by-settings : room_of Joint (settings_in z) ≡ room_of Joint (settings_of f)
  by-settings = ap (room_of Joint) (settings-planned k)

  pub counts-needed : room.counts ≡ counts_room f
  counts-needed = ap (λ (r : Room). r.counts) (needs ∙ by-settings)

  pub words-needed : room.words ≡ words_room f
  words-needed = ap (λ (r : Room). r.words) (needs ∙ by-settings)

  pub pixels-needed : z.width * z.height ≡ pixels_in f
  pixels-needed = ap pixels (settings-planned k)

  -- room for the walk
  pub stores-from : (xs ws : List ℕ) → counts_room f ≤ length xs → words_room f ≤ length ws → StoresFit Joint (settings_in z) (stores xs ws [])
  unfolding room_of
  stores-from xs ws h g =
      record {
        counts = omega (arith, h, ap (λ (r : Room). r.counts) by-settings);
        words = omega (arith, g, ap (λ (r : Room). r.words) by-settings);
        numbers = omega arith;
      }

-- ---- what is lent of a buffer from a number on, as the code lends it, and the buffer when that comes back
abbrev pub lent_from : ℕ → List ℕ → List ℕ
lent_from c xs = take (length xs - c) (drop c xs)

pub lent_is : (c : ℕ) (xs : List ℕ) → lent_from c xs ≡ drop c xs
lent_is c xs = take_all (length xs - c) (drop c xs) (omega (arith, length-drop c xs))

pub lent-long : (c n : ℕ) (xs : List ℕ) → c + n ≤ length xs → n ≤ length (lent_from c xs)
lent-long c n xs h = omega (arith, ap length (lent_is c xs), length-drop c xs)

put_back : (c : ℕ) (xs ys : List ℕ) → c ≤ length xs → put_mid c (length xs - c) xs ys ≡ take c xs ++ ys
put_back c xs ys h =
    let e : c + (length xs - c) ≡ length xs = omega arith in
    ap (λ (l : List ℕ). take c xs ++ (ys ++ l)) (drop-drop (length xs - c) c xs ∙ ap (λ (n : ℕ). drop n xs) e ∙ drop-length xs) ∙ ap
    (λ (l : List ℕ). take c xs ++ l) (append-nil ys)

-- ---- a part that is as lent
kept-part : (n c : ℕ) (old : List ℕ) → old ≡ take c old ++ (take n (drop c old) ++ drop n (drop c old))
kept-part n c old = sym (ap (λ (l : List ℕ). take c old ++ l) (take-append-drop n (drop c old)) ∙ take-append-drop c old)

-- ---- a part of a walk
counts_some : (f : List ℕ) (n : ℕ) (old : List ℕ) → 1 ≤ n → counts_of Joint (frame_of f) (walked_to f n).column (walked_to f n).row ≡ counts_part f n old
unfolding counts_part
counts_some f zero old h = absurd (omega arith)
counts_some f (suc d) old h = refl

words-some : (f : List ℕ) (n : ℕ) (old : List ℕ) → 1 ≤ n → words_of Joint (frame_of f) (walked_to f n).column (walked_to f n).row ≡ words_part f n old
unfolding words_part
words-some f zero old h = absurd (omega arith)
words-some f (suc d) old h = refl

answers-some : (f : List ℕ) (n : ℕ) (old : List ℕ) → n ≤ pixels_in f → pixels_in f ≤ length old
    → take n (walk_answers (frame_of f) 0 0 (serpentine (frame_of f).set)) ++ drop n old ≡ answers_part f n old ++ drop (pixels_in f) old
unfolding answers_part
answers-some f n old h l =
    let front = take n (walk_answers (frame_of f) 0 0 (serpentine (frame_of f).set)) in
    let e : drop n old ≡ drop n (take (pixels_in f) old) ++ drop (pixels_in f) old =
    ap (drop n) (sym (take-append-drop (pixels_in f) old))
    ∙ drop-append-le n (take (pixels_in f) old) (drop (pixels_in f) old) (omega (arith, length-take (pixels_in f) old)) in
    ap (λ (l : List ℕ). front ++ l) e ∙ sym (append_assoc front (drop n (take (pixels_in f) old)) (drop (pixels_in f) old))

module _ {f : List ℕ} {z : Plan} (k : Planned f z) (room : Room) (needs : room ≡ room_of Joint (settings_in z)) (from : Place) (held : Parts) where
  abbrev next : Place
  next = record { counts = from.counts + room.counts; words = from.words + room.words; answers = from.answers + z.width * z.height }

  pub none_made : (d : ℕ) → d ≡ 0 → PartMade f d from held held next
  unfolding counts_part words_part answers_part
  none_made d e = rw e
      (record {
        counts = kept-part (counts_room f) from.counts held.counts;
        words = kept-part (words_room f) from.words held.words;
        answers = kept-part (pixels_in f) from.answers held.answers;
        next_counts = ap (λ (n : ℕ). from.counts + n) (counts-needed k room needs);
        next_words = ap (λ (n : ℕ). from.words + n) (words-needed k room needs);
        next_answers = ap (λ (n : ℕ). from.answers + n) (pixels-needed k room needs);
      })

  -- made is what the walk left from the place on
  pub some-made : (d : ℕ) → 1 ≤ d → d ≤ pixels_in f → RoomFrom f from held → (made : Parts)
      → Begun f d (parts (lent_from from.counts held.counts) (lent_from from.words held.words) (lent_from from.answers held.answers))
      made
      → PartMade f d from held
      (parts (put_mid from.counts (length held.counts - from.counts) held.counts made.counts)
      (put_mid from.words (length held.words - from.words) held.words made.words)
      (put_mid from.answers (length held.answers - from.answers) held.answers made.answers)) next
  some-made d some few h made b' =
      let xs = drop from.counts held.counts in
      let ws = drop from.words held.words in
      let rest = drop from.answers held.answers in
      let b = rw (lent_is from.counts held.counts, lent_is from.words held.words, lent_is from.answers held.answers) at b' in
      record {
        counts = put_back from.counts held.counts made.counts (omega (arith, h.counts)) ∙ ap
            (λ (l : List ℕ). take from.counts held.counts ++ l)
            (b.counts ∙ ap (λ (l : List ℕ). l ++ drop (counts_room f) xs) (counts_some f d xs some));
        words = put_back from.words held.words made.words (omega (arith, h.words)) ∙ ap
            (λ (l : List ℕ). take from.words held.words ++ l)
            (b.words ∙ ap (λ (l : List ℕ). l ++ drop (words_room f) ws) (words-some f d ws some));
        answers = put_back from.answers held.answers made.answers (omega (arith, h.answers)) ∙ ap
            (λ (l : List ℕ). take from.answers held.answers ++ l)
            (b.answers ∙ answers-some f d rest few (omega (arith, h.answers, length-drop from.answers held.answers)));
        next_counts = ap (λ (n : ℕ). from.counts + n) (counts-needed k room needs);
        next_words = ap (λ (n : ℕ). from.words + n) (words-needed k room needs);
        next_answers = ap (λ (n : ℕ). from.answers + n) (pixels-needed k room needs);
      }
