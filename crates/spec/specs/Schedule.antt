-- Document 02, ask 9: whose turn it is where up to eight frames share the grants of control periods. A grant answers one pixel.
-- Assumes nothing.
use Rattle.std.specs.Prelude.{ℕ, zero, suc, ◌+◌, ◌%◌, Bool, List, [], ◌∷◌, ◌++◌, ltb, get_or, set, replicate, if◌then◌else◌}
use Rattle.spec.specs.declared.Round.{Round}
use Rattle.spec.specs.Base.{first}

-- There are eight files; where a call has fewer, the others have no pixels, and so are finished from the start.

-- before the first grant, which looks at the lowest file first
abbrev pub opening : Round
opening = record { next = 0; granted = 0; tallies = replicate 8 0 }

-- file k has a pixel left; sizes has the pixels of each file
unfoldable pub unfinished : List ℕ → Round → ℕ → Bool
unfinished sizes x k = ltb (get_or x.tallies k 0) (get_or sizes k 0)

-- the file that is looked at after j others: rising numbers, wrapping
abbrev pub looked : Round → ℕ → ℕ
looked x j = (x.next + j) % 8

-- how many files are passed over because they are finished: 8 where all are
unfoldable pub passed_over : List ℕ → Round → ℕ
passed_over sizes x = first (λ j. unfinished sizes x (looked x j)) 8

-- a grant that file k gets
abbrev pub serve : ℕ → Round → Round
serve k x = record { next = k + 1; granted = x.granted + 1; tallies = set x.tallies k (get_or x.tallies k 0 + 1) }

-- one grant: nothing where all are finished
unfoldable pub grant : List ℕ → Round → Round
grant sizes x = let j = passed_over sizes x in if ltb j 8 then serve (looked x j) x else x

-- a period's grants, and those of a list of periods by their limits
unfoldable pub grants : List ℕ → ℕ → Round → Round
grants sizes zero x = x
grants sizes (suc limit) x = grants sizes limit (grant sizes x)

unfoldable pub periods : List ℕ → List ℕ → Round → Round
periods sizes [] x = x
periods sizes (limit ∷ limits) x = periods sizes limits (grants sizes limit x)

-- the files that were served, in this order
unfoldable pub served : List ℕ → ℕ → Round → List ℕ
served sizes zero x = []
served sizes (suc limit) x =
    let j = passed_over sizes x in if ltb j 8 then looked x j ∷ served sizes limit (serve (looked x j) x) else []

unfoldable pub served_in : List ℕ → List ℕ → Round → List ℕ
served_in sizes [] x = []
served_in sizes (limit ∷ limits) x = served sizes limit x ++ served_in sizes limits (grants sizes limit x)
