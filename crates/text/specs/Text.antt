-- What a function that puts text into a lent buffer promises, and the texts that are put piece by piece.
-- Assumes nothing.
use Rattle.std.specs.Prelude.{ℕ, zero, suc, ◌+◌, ◌-◌, ◌*◌, ◌≤◌, ◌≡◌, List, [], ◌∷◌, ◌++◌, eqb, length, get_or, if◌then◌else◌}
use Rattle.std.proofs.lemmas.List.Edits.{sets}
use Rattle.spec.specs.Program.{decimal, spaced, line, refused_word, beside}

-- a buffer l has room for a text from a place on
abbrev pub TextRoom : List ℕ → ℕ → List ℕ → Type 0
TextRoom l at text = at + length text ≤ length l

-- the buffer l has become m: the text stands in it from a place on, the rest is as it was; and q is the place behind the text
pub record Puts (l m : List ℕ) (at q : ℕ) (text : List ℕ) : Type 0 where
  pub stored : m ≡ sets l at text
  pub behind : q ≡ at + length text

-- f 0 .. f (n - 1), one behind the other
unfoldable pub pieces : (ℕ → List ℕ) → ℕ → List ℕ
pieces f zero = []
pieces f (suc n) = pieces f n ++ f n

-- a number behind another in a line
abbrev pub spaced_one : ℕ → List ℕ
spaced_one n = 32 ∷ decimal n

-- the numbers of a list that follow the one at a place, each behind a space
abbrev pub follower : List ℕ → ℕ → ℕ → List ℕ
follower m first k = spaced_one (get_or m (first + (k + 1)) 0)

-- a row of a plane that is w wide and begins at a place: a line
unfoldable pub row_text : List ℕ → ℕ → ℕ → List ℕ
row_text m first w = line (spaced (w - 1) (λ s. get_or m (first + s) 0))

-- the first n rows of a plane
unfoldable pub plane_text : List ℕ → ℕ → ℕ → List ℕ
plane_text m w n = pieces (λ t. row_text m (t * w) w) n

-- the first line: width and height
unfoldable pub size_text : ℕ → ℕ → List ℕ
size_text w h = line (decimal w ++ spaced_one h)

-- a way with its shift count
unfoldable pub way_text : List ℕ → ℕ → List ℕ
way_text word n = line (word ++ decimal n)

-- a refusal by its number, with the offset beside 7
unfoldable pub refusal_text : ℕ → ℕ → List ℕ
refusal_text n offset = line (refused_word ++ decimal n ++ beside (if eqb n 7 then offset ∷ [] else []))
