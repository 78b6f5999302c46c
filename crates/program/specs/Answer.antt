-- What the program makes of a file that no check refuses: its filtered plane and shift counts, and how long its text is.
-- Assumes nothing.
use Rattle.std.specs.Prelude.{ℕ, ◌≡◌, ◌⊎◌, List, [], ◌++◌, eqb, length, drop, if◌then◌else◌}
use Rattle.spec.specs.declared.Plan.{Plan}
use Rattle.spec.specs.Frame.{frame_of, pixels}
use Rattle.spec.specs.Filter.{filtered, filter_end}
use Rattle.spec.specs.Calls.{way_of}
use Rattle.spec.specs.Program.{columns_word, chain_word}
use Rattle.text.specs.Text.{way_text}
use Rattle.program_checks.specs.Admitted.{Admitted}

-- the longest text: the pixels of 16,384 bytes less a trailer at six bytes each, and the lines of size and ways
abbrev pub longest : ℕ
longest = 49280

-- a way that serves a kind
abbrev pub Serving : ℕ → ℕ → Type 0
Serving way kind = ((way ≡ 1) ⊎ (way ≡ 4)) ⊎ ((way ≡ 2) ⊎ (way ≡ 3)) × (kind ≡ 2)

-- a file that passes the program's checks, and a way that serves its kind
pub record Filterable (b : List ℕ) (way : ℕ) : Type 0 where
  pub plan : Plan
  pub admitted : Admitted b plan
  pub serving : Serving way plan.kind

-- a frame filtered by a way: the plane, and the shift count
pub record Filtered (b : List ℕ) (way : ℕ) (before after : List ℕ) (n : ℕ) : Type 0 where
  pub plane : after ≡ filtered (frame_of b) ++ drop (pixels (frame_of b).set) before
  pub long : length after ≡ 8192
  pub shifts : n ≡ (filter_end (way_of way) (frame_of b)).shifts

-- the lines of the ways that serve kind 2 alone
unfoldable pub guided_text : ℕ → ℕ → List ℕ
guided_text kind n = if eqb kind 2 then way_text columns_word n ++ way_text chain_word n else []
