-- Document 02's request 9, eight cameras and one processor, as statements about the promise of its call; proofs/Cameras.antt proves each.
-- b are the files' bytes end to end, lengths their lengths, limits those of the periods, before and after the lent buffers around the call, r its
-- result.
-- Assumes nothing.
use Rattle.std.specs.Prelude.{ℕ, ◌+◌, ◌*◌, ◌≤◌, ◌<◌, min, ◌≡◌, true, ◌⊎◌, List, [], map, length, get_or, take, drop, Result, Ok}
use Rattle.spec.specs.declared.Refusal.{Refusal}
use Rattle.spec.specs.declared.Way.TheVariants.{Joint}
use Rattle.spec.specs.Refusal.{accepted, refused, numbered}
use Rattle.spec.specs.Frame.{frame_of}
use Rattle.spec.specs.Walk.{walk_end}
use Rattle.spec.specs.Filter.{serpentine}
use Rattle.spec.specs.Schedule.{opening, unfinished, serve, grant, grants, periods}
use Rattle.spec.specs.Cameras.{
  files_in,
  total,
  counts_room,
  words_room,
  pixels_in,
  round_of,
  counts_part,
  words_part,
  answers_part,
}
use Rattle.ice_step.specs.declared.Walked.{Walked}
use Rattle.ice_step.specs.Finished.{Lent}
use Rattle.ice.specs.Contract.{Filters}
use Rattle.ice_prefix.specs.Prefix.{Parts}
use Rattle.cameras.specs.Contract.{outcome_of, AllKept, Shared, Schedules}

-- ---- demand 1: the grants made and the parts of each file, or every buffer as it was
abbrev pub SharedOrRefused : Type 0
SharedOrRefused =
    (b lengths limits : List ℕ) (before after : Parts) (r : Result ℕ Refusal) → Schedules b lengths limits before after r
    → ((g : ℕ) × (r ≡ Ok g) × (outcome_of b lengths limits before ≡ accepted) × Shared (files_in lengths b) limits before after g)
    ⊎ ((n : ℕ) × (l : List ℕ) × (numbered r ≡ refused n l) × (outcome_of b lengths limits before ≡ refused n l) × AllKept before after)

-- ---- request 9

-- file k of a list, how many of its pixels are answered, and where its part of a buffer begins
abbrev pub file_at : List (List ℕ) → ℕ → List ℕ
file_at fs k = get_or fs k []

abbrev pub tally_at : List (List ℕ) → List ℕ → ℕ → ℕ
tally_at fs limits k = get_or (round_of fs limits).tallies k 0

abbrev pub begins_at : (List ℕ → ℕ) → List (List ℕ) → ℕ → ℕ
begins_at room fs k = total (map room (take k fs))

-- each file's parts by the file and its tally alone: what its walk so far leaves, or as lent where it has no grant; and nothing changes beyond them
pub record EachPart (fs : List (List ℕ)) (limits : List ℕ) (before after : Parts) : Type 0 where
  pub counts : (k : ℕ) → k < length fs → take (counts_room (file_at fs k)) (drop (begins_at counts_room fs k) after.counts)
      ≡ counts_part (file_at fs k) (tally_at fs limits k) (drop (begins_at counts_room fs k) before.counts)
  pub words : (k : ℕ) → k < length fs → take (words_room (file_at fs k)) (drop (begins_at words_room fs k) after.words)
      ≡ words_part (file_at fs k) (tally_at fs limits k) (drop (begins_at words_room fs k) before.words)
  pub answers : (k : ℕ) → k < length fs → take (pixels_in (file_at fs k)) (drop (begins_at pixels_in fs k) after.answers)
      ≡ answers_part (file_at fs k) (tally_at fs limits k) (drop (begins_at pixels_in fs k) before.answers)
  pub counts_beyond : drop (total (map counts_room fs)) after.counts ≡ drop (total (map counts_room fs)) before.counts
  pub words_beyond : drop (total (map words_room fs)) after.words ≡ drop (total (map words_room fs)) before.words
  pub answers_beyond : drop (total (map pixels_in fs)) after.answers ≡ drop (total (map pixels_in fs)) before.answers

abbrev pub EachPartGiven : Type 0
EachPartGiven =
    (b lengths limits : List ℕ) (before after : Parts) (g : ℕ) → Schedules b lengths limits before after (Ok g)
    → EachPart (files_in lengths b) limits before after

-- the answers so far are a prefix of the filter run alone, with any other files beside it: answer i of file k is what a filter of that file alone, by
-- any way that serves it, gives to the pixel where its walk is after i moves
abbrev pub AsAlone : Type 0
AsAlone =
    (b lengths limits : List ℕ) (before after : Parts) (g : ℕ) → Schedules b lengths limits before after (Ok g)
    → (k : ℕ) → k < length (files_in lengths b) → let f = file_at (files_in lengths b) k in
    (way : ℕ) (before' after' : Lent) (old new : List ℕ) (w : Walked) → Filters f way before' after' old new (Ok w)
    → (i : ℕ) → i < tally_at (files_in lengths b) limits k
    → let x = walk_end Joint (frame_of f) 0 0 (take i (serpentine (frame_of f).set)) in
    get_or after.answers (begins_at pixels_in (files_in lengths b) k + i) 0 ≡ get_or new (x.row * (frame_of f).set.width + x.column) 0

-- a file's tally is no more than its pixels
abbrev pub TalliesLow : Type 0
TalliesLow =
    (b lengths limits : List ℕ) (before after : Parts) (g : ℕ) → Schedules b lengths limits before after (Ok g)
    → (k : ℕ) → k < length (files_in lengths b) → tally_at (files_in lengths b) limits k ≤ pixels_in (file_at (files_in lengths b) k)

-- wherever the grants have come to, an unfinished file gets one of the next eight: sizes has the pixels of each file
abbrev pub WithinEight : Type 0
WithinEight =
    (sizes : List ℕ) (m k : ℕ) → k < 8 → unfinished sizes (grants sizes m opening) k ≡ true
    → (j : ℕ) × (j < 8) × (let x = grants sizes (m + j) opening in grant sizes x ≡ serve k x)

-- nothing is begun anew at a period's end: the periods' grants are one list of grants
abbrev pub OneList : Type 0
OneList = (sizes limits : List ℕ) → periods sizes limits opening ≡ grants sizes (total limits) opening

-- all grants of a period are made while a file is unfinished: so many are made as the limits allow, or as there are pixels
abbrev pub AllGranted : Type 0
AllGranted =
    (b lengths limits : List ℕ) (before after : Parts) (g : ℕ) → Schedules b lengths limits before after (Ok g)
    → g ≡ min (total limits) (total (map pixels_in (files_in lengths b)))

pub record Request9 : Type 0 where
  pub parts : EachPartGiven
  pub alone : AsAlone
  pub tallies : TalliesLow
  pub fair : WithinEight
  pub one_list : OneList
  pub granted : AllGranted
