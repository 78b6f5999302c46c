-- Each file's part of a buffer by itself, and what lies beyond all parts, from the parts end to end.
-- Assumes nothing.
use Prim.Native.Nat.{ℕ, zero, suc, ◌+◌, ◌≤◌, ◌<◌}
use mathlib.Core.Path.{◌≡◌, refl, sym, ap, ◌∙◌}
use mathlib.Core.List.{List, [], ◌∷◌, ◌++◌, map}
use native.Mathlib.Omega.{arith}
use lib.ListN.{length, get_or, take, drop, length-append, length-drop}
use lib.Seq.{length-take-le, take_at, drop-drop, drop-append-add}
use Rattle.spec.specs.declared.Way.TheVariants.{Joint}
use Rattle.spec.specs.Refusal.{accepted}
use Rattle.spec.specs.Frame.{frame_of}
use Rattle.spec.specs.Checks.{verdict}
use Rattle.spec.specs.Joint.{joint_counts, occupancy_words}
use Rattle.spec.specs.Walk.{start, walk_answers}
use Rattle.spec.specs.Filter.{serpentine}
use Rattle.spec.specs.Calls.{room_of, counts_of, words_of}
use Rattle.spec.specs.Cameras.{total, counts_room, words_room, pixels_in, counts_part, words_part, answers_part, end_to_end, verdicts}
use Rattle.spec.proofs.Checks.{both-accepted}
use Rattle.spec.proofs.First.{length-tabulate}
use Rattle.spec.proofs.Limits.{limits_of}
use Rattle.spec.proofs.Serpentine.{serpentine-length}
use Rattle.spec.proofs.Steps.{length-answers}

-- ---- a part has the length of its room
pub counts-long : (f : List ℕ) (d : ℕ) (old : List ℕ) → counts_room f ≤ length old → length (counts_part f d old) ≡ counts_room f
unfolding counts_part counts_of joint_counts room_of frame_of
counts-long f zero old h = length-take-le (counts_room f) old h
counts-long f (suc d) old h = length-tabulate _ _

pub words_long : (f : List ℕ) (d : ℕ) (old : List ℕ) → words_room f ≤ length old → length (words_part f d old) ≡ words_room f
unfolding words_part words_of occupancy_words room_of frame_of
words_long f zero old h = length-take-le (words_room f) old h
words_long f (suc d) old h = length-tabulate _ _

-- the filter's walk has an answer for each pixel
pub answers-all : (f : List ℕ) → verdict f ≡ accepted → length (walk_answers (frame_of f) 0 0 (serpentine (frame_of f).set)) ≡ pixels_in f
unfolding walk_answers frame_of
answers-all f ok =
    let s = (limits_of f ok).sound in
    let some : 1 ≤ pixels_in f = native.Mathlib.Nat.mul-pos s.width_low s.height_low in
    omega (arith, length-answers (frame_of f) (start Joint (frame_of f) 0 0) (serpentine (frame_of f).set), serpentine-length (frame_of f).set)

pub answers-long : (f : List ℕ) (d : ℕ) (old : List ℕ) → verdict f ≡ accepted → d ≤ pixels_in f → pixels_in f ≤ length old
    → length (answers_part f d old) ≡ pixels_in f
unfolding answers_part
answers-long f d old ok l h =
    let w = walk_answers (frame_of f) 0 0 (serpentine (frame_of f).set) in
    omega (
      arith,
      length-append (take d w) (drop d (take (pixels_in f) old)),
      length-take-le d w (omega (arith, answers-all f ok)),
      length-drop d (take (pixels_in f) old),
      length-take-le (pixels_in f) old h,
    )

-- ---- the parts end to end
module _ (room : List ℕ → ℕ) (part : List ℕ → ℕ → List ℕ → List ℕ) where
  -- every file's part would have the length of its room
  unfoldable pub PartsLong : List (List ℕ) → List ℕ → Type 0
  PartsLong [] ds = Unit
  PartsLong (f ∷ fs) [] = ⊥
  PartsLong (f ∷ fs) (d ∷ ds) = ((old : List ℕ) → room f ≤ length old → length (part f d old) ≡ room f) × PartsLong fs ds

  -- file k's part, which begins where those of the files before it end
  pub part_at : (fs : List (List ℕ)) (ds old : List ℕ) → PartsLong fs ds → total (map room fs) ≤ length old → (k : ℕ) → k < length fs
      → take (room (get_or fs k [])) (drop (total (map room (take k fs))) (end_to_end room part fs ds old))
      ≡ part (get_or fs k []) (get_or ds k 0) (drop (total (map room (take k fs))) old)
  unfolding PartsLong end_to_end total
  part_at [] ds old p h k l = absurd (omega arith)
  part_at (f ∷ fs) [] old p h k l = absurd p
  part_at (f ∷ fs) (d ∷ ds) old p h zero l =
      take_at (part f d old) (end_to_end room part fs ds (drop (room f) old)) (room f) (p.0 old (omega arith))
  part_at (f ∷ fs) (d ∷ ds) old p h (suc k) l =
      let n = p.0 old (omega arith) in
      let m = total (map room (take k fs)) in
      let behind : drop (room f + m) (part f d old ++ end_to_end room part fs ds (drop (room f) old)) ≡ drop m
      (end_to_end room part fs ds (drop (room f) old)) =
      ap (λ (j : ℕ). drop (j + m) (part f d old ++ end_to_end room part fs ds (drop (room f) old))) (sym n)
      ∙ drop-append-add (part f d old) (end_to_end room part fs ds (drop (room f) old)) m in
      ap (take (room (get_or fs k []))) behind
      ∙ part_at fs ds (drop (room f) old) p.1 (omega (arith, length-drop (room f) old)) k (omega arith)
      ∙ ap (part (get_or fs k []) (get_or ds k 0)) (drop-drop m (room f) old)

  pub beyond-parts : (fs : List (List ℕ)) (ds old : List ℕ) → PartsLong fs ds → total (map room fs) ≤ length old
      → drop (total (map room fs)) (end_to_end room part fs ds old) ≡ drop (total (map room fs)) old
  unfolding PartsLong end_to_end total
  beyond-parts [] ds old p h = refl
  beyond-parts (f ∷ fs) [] old p h = absurd p
  beyond-parts (f ∷ fs) (d ∷ ds) old p h =
      let m = total (map room fs) in
      ap (λ (j : ℕ). drop (j + m) (part f d old ++ end_to_end room part fs ds (drop (room f) old))) (sym (p.0 old (omega arith)))
      ∙ drop-append-add (part f d old) (end_to_end room part fs ds (drop (room f) old)) m
      ∙ beyond-parts fs ds (drop (room f) old) p.1 (omega (arith, length-drop (room f) old)) ∙ drop-drop m (room f) old

-- ---- of accepted files, and tallies that are no more than their pixels
module _ where
  pub counts-parts : (fs : List (List ℕ)) (ds : List ℕ) → length fs ≤ length ds → PartsLong counts_room counts_part fs ds
  unfolding PartsLong
  counts-parts [] ds h = tt
  counts-parts (f ∷ fs) [] h = absurd (omega arith)
  counts-parts (f ∷ fs) (d ∷ ds) h = (counts-long f d, counts-parts fs ds (omega arith))

  pub words-parts : (fs : List (List ℕ)) (ds : List ℕ) → length fs ≤ length ds → PartsLong words_room words_part fs ds
  unfolding PartsLong
  words-parts [] ds h = tt
  words-parts (f ∷ fs) [] h = absurd (omega arith)
  words-parts (f ∷ fs) (d ∷ ds) h = (words_long f d, words-parts fs ds (omega arith))

  pub answers-parts : (fs : List (List ℕ)) (ds : List ℕ) → length fs ≤ length ds → verdicts fs ≡ accepted
      → ((k : ℕ) → k < length fs → get_or ds k 0 ≤ get_or (map pixels_in fs) k 0) → PartsLong pixels_in answers_part fs ds
  unfolding PartsLong verdicts
  answers-parts [] ds h ok low = tt
  answers-parts (f ∷ fs) [] h ok low = absurd (omega arith)
  answers-parts (f ∷ fs) (d ∷ ds) h ok low =
      let a = both-accepted (verdict f) (verdicts fs) ok in
      (λ old l. answers-long f d old a.0 (low 0 (omega arith)) l, answers-parts fs ds (omega arith) a.1 (λ k l. low (suc k) (omega arith)))

-- a file of an accepted list is accepted
pub file-accepted : (fs : List (List ℕ)) → verdicts fs ≡ accepted → (k : ℕ) → k < length fs → verdict (get_or fs k []) ≡ accepted
unfolding verdicts
file-accepted [] ok k l = absurd (omega arith)
file-accepted (f ∷ fs) ok zero l = (both-accepted (verdict f) (verdicts fs) ok).0
file-accepted (f ∷ fs) ok (suc k) l = file-accepted fs (both-accepted (verdict f) (verdicts fs) ok).1 k (omega arith)
