-- What the first pixels of a file's walk leave in its parts of the lent buffers.
-- Assumes nothing.
use Rattle.std.specs.Prelude.{ℕ, ◌≡◌, List, ◌++◌, take, drop}
use Rattle.spec.specs.declared.Way.TheVariants.{Joint}
use Rattle.spec.specs.Frame.{frame_of}
use Rattle.spec.specs.Walk.{walk_answers}
use Rattle.spec.specs.Filter.{serpentine}
use Rattle.spec.specs.Calls.{counts_of, words_of}
use Rattle.spec.specs.Cameras.{counts_room, words_room, walked_to}

-- way 1's stores and the answers, from a file's parts on
pub record Parts : Type 0 where
  pub counts : List ℕ
  pub words : List ℕ
  pub answers : List ℕ

abbrev pub parts : List ℕ → List ℕ → List ℕ → Parts
parts counts words answers = record { counts = counts; words = words; answers = answers }

-- n pixels, of which there is at least one, are answered: the stores of the last one's window, the answers in the walk's order, and what lay beyond
pub record Begun (f : List ℕ) (n : ℕ) (before after : Parts) : Type 0 where
  pub counts : after.counts ≡ counts_of Joint (frame_of f) (walked_to f n).column (walked_to f n).row ++ drop (counts_room f) before.counts
  pub words : after.words ≡ words_of Joint (frame_of f) (walked_to f n).column (walked_to f n).row ++ drop (words_room f) before.words
  pub answers : after.answers ≡ take n (walk_answers (frame_of f) 0 0 (serpentine (frame_of f).set)) ++ drop n before.answers
