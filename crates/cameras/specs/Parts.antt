-- The parts of the files in the three buffers, file by file.
-- Assumes nothing.
use Rattle.std.specs.Prelude.{ℕ, ◌+◌, ◌≤◌, ◌<◌, ◌≡◌, List, ◌++◌, map, length, get_or, take, drop}
use Rattle.spec.specs.Refusal.{accepted}
use Rattle.spec.specs.Cameras.{files_in, total, counts_room, words_room, pixels_in, verdicts, counts_part, words_part, answers_part, end_to_end}
use Rattle.ice_prefix.specs.Prefix.{Parts}
use Rattle.cameras.specs.declared.Place.{Place}

-- there is room for a file's parts, from a place on
pub record RoomFrom (f : List ℕ) (from : Place) (held : Parts) : Type 0 where
  pub counts : from.counts + counts_room f ≤ length held.counts
  pub words : from.words + words_room f ≤ length held.words
  pub answers : from.answers + pixels_in f ≤ length held.answers

-- a buffer that was old, with the part of a file, of which d pixels are answered, from number c on
abbrev pub with_part : (List ℕ → ℕ) → (List ℕ → ℕ → List ℕ → List ℕ) → List ℕ → ℕ → ℕ → List ℕ → List ℕ
with_part room part f d c old = take c old ++ (part f d (drop c old) ++ drop (room f) (drop c old))

-- a file's parts made, from a place on; and where the next file's begin
pub record PartMade (f : List ℕ) (d : ℕ) (from : Place) (before after : Parts) (r : Place) : Type 0 where
  pub counts : after.counts ≡ with_part counts_room counts_part f d from.counts before.counts
  pub words : after.words ≡ with_part words_room words_part f d from.words before.words
  pub answers : after.answers ≡ with_part pixels_in answers_part f d from.answers before.answers
  pub next_counts : r.counts ≡ from.counts + counts_room f
  pub next_words : r.words ≡ from.words + words_room f
  pub next_answers : r.answers ≡ from.answers + pixels_in f

-- files that are accepted, with room for their parts, and tallies that are no more than their pixels
pub record Servable (b lengths tallies : List ℕ) (held : Parts) : Type 0 where
  pub few : length lengths ≤ 8
  pub sum : total lengths ≡ length b
  pub accepts : verdicts (files_in lengths b) ≡ accepted
  pub long : length tallies ≡ 8
  pub low : (k : ℕ) → k < length (files_in lengths b) → get_or tallies k 0 ≤ get_or (map pixels_in (files_in lengths b)) k 0
  pub counts : total (map counts_room (files_in lengths b)) ≤ length held.counts
  pub words : total (map words_room (files_in lengths b)) ≤ length held.words
  pub answers : total (map pixels_in (files_in lengths b)) ≤ length held.answers

-- the parts of all files made
pub record AllMade (fs : List (List ℕ)) (tallies : List ℕ) (before after : Parts) : Type 0 where
  pub counts : after.counts ≡ end_to_end counts_room counts_part fs tallies before.counts
  pub words : after.words ≡ end_to_end words_room words_part fs tallies before.words
  pub answers : after.answers ≡ end_to_end pixels_in answers_part fs tallies before.answers
