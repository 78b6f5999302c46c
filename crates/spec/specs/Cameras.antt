-- Document 02, ask 9: one call over up to eight files, end to end in one buffer. What each file's parts of the lent buffers hold, and the outcome.
-- Assumes nothing.
use Rattle.std.specs.Prelude.{ℕ, zero, suc, ◌+◌, ◌-◌, Bool, false, ◌||◌, not, List, [], ◌∷◌, ◌++◌, map, ltb, eqb, length, take, drop, replicate}
use Rattle.spec.specs.declared.Round.{Round}
use Rattle.spec.specs.declared.Way.TheVariants.{Joint}
use Rattle.spec.specs.Refusal.{Outcome, accepted, ◌▷◌, refuse}
use Rattle.spec.specs.Frame.{settings_of, frame_of, pixels}
use Rattle.spec.specs.Checks.{verdict}
use Rattle.spec.specs.Walk.{State, walk_end, walk_answers}
use Rattle.spec.specs.Filter.{serpentine}
use Rattle.spec.specs.Calls.{room_of, counts_of, words_of}
use Rattle.spec.specs.Schedule.{opening, periods}

-- ---- the files

-- those of a buffer, by their lengths
unfoldable pub files_in : List ℕ → List ℕ → List (List ℕ)
files_in [] b = []
files_in (n ∷ lengths) b = take n b ∷ files_in lengths (drop n b)

unfoldable pub total : List ℕ → ℕ
total [] = 0
total (n ∷ ns) = n + total ns

-- how many numbers a file's part of each buffer has: way 1's counts and words, and an answer for each pixel
abbrev pub counts_room : List ℕ → ℕ
counts_room f = (room_of Joint (settings_of f)).counts

abbrev pub words_room : List ℕ → ℕ
words_room f = (room_of Joint (settings_of f)).words

abbrev pub pixels_in : List ℕ → ℕ
pixels_in f = pixels (settings_of f)

-- ---- the schedule, by the files' pixels and the periods' limits alone

-- the pixels of each of eight files: none where there is no file
unfoldable pub sizes_of : List (List ℕ) → List ℕ
sizes_of fs = map pixels_in fs ++ replicate (8 - length fs) 0

unfoldable pub round_of : List (List ℕ) → List ℕ → Round
round_of fs limits = periods (sizes_of fs) limits opening

-- ---- the parts of a file of which d pixels are answered; old is its part as it was lent, and what lies behind it

-- its walk so far: the filter's, with d − 1 moves made
abbrev pub walked_to : List ℕ → ℕ → State
walked_to f d = walk_end Joint (frame_of f) 0 0 (take (d - 1) (serpentine (frame_of f).set))

unfoldable pub counts_part : List ℕ → ℕ → List ℕ → List ℕ
counts_part f zero old = take (counts_room f) old
counts_part f (suc d) old = let x = walked_to f (suc d) in counts_of Joint (frame_of f) x.column x.row

unfoldable pub words_part : List ℕ → ℕ → List ℕ → List ℕ
words_part f zero old = take (words_room f) old
words_part f (suc d) old = let x = walked_to f (suc d) in words_of Joint (frame_of f) x.column x.row

-- the first d answers of the filter's walk, in its order, and then as lent
unfoldable pub answers_part : List ℕ → ℕ → List ℕ → List ℕ
answers_part f d old = take d (walk_answers (frame_of f) 0 0 (serpentine (frame_of f).set)) ++ drop d (take (pixels_in f) old)

-- a buffer that was old: the parts of the files end to end, and then what lay beyond
module _ (room : List ℕ → ℕ) (part : List ℕ → ℕ → List ℕ → List ℕ) where
  unfoldable pub end_to_end : List (List ℕ) → List ℕ → List ℕ → List ℕ
  end_to_end [] tallies old = old
  end_to_end (f ∷ fs) [] old = old
  end_to_end (f ∷ fs) (d ∷ tallies) old = part f d old ++ end_to_end fs tallies (drop (room f) old)

-- ---- the checks

unfoldable pub any_above : ℕ → List ℕ → Bool
any_above most [] = false
any_above most (n ∷ ns) = ltb most n || any_above most ns

-- check 15: over 8 files, lengths that do not add up to the buffer, or a limit above 4,096
unfoldable pub bad_batch : List ℕ → List ℕ → List ℕ → Bool
bad_batch b lengths limits = ltb 8 (length lengths) || (not (eqb (total lengths) (length b)) || any_above 4096 limits)

-- checks 1 to 7, file by file
unfoldable pub verdicts : List (List ℕ) → Outcome
verdicts [] = accepted
verdicts (f ∷ fs) = verdict f ▷ verdicts fs

-- check 11: a buffer of so many numbers is too short for the parts of all files
unfoldable pub short_of : List (List ℕ) → ℕ → ℕ → ℕ → Bool
short_of fs counts words answers =
    ltb counts (total (map counts_room fs)) || (ltb words (total (map words_room fs)) || ltb answers (total (map pixels_in fs)))

unfoldable pub cameras_outcome : List ℕ → List ℕ → List ℕ → ℕ → ℕ → ℕ → Outcome
cameras_outcome b lengths limits counts words answers =
    refuse 15 (bad_batch b lengths limits) ▷ verdicts (files_in lengths b) ▷ refuse 11 (short_of (files_in lengths b) counts words answers)
