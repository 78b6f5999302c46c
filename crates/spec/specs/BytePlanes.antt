-- Document 02, ask 8: a file whose value plane is split into byte planes, the high bytes of all its numbers and then the low bytes; the same joined
-- again; and the outcomes of the two calls.
-- Assumes nothing.
use Rattle.std.specs.Prelude.{ℕ, ◌+◌, ◌*◌, min, max, Bool, ◌||◌, List, [], ◌∷◌, ◌++◌, ltb, length, take, drop}
use Rattle.spec.specs.declared.Plan.{Plan}
use Rattle.spec.specs.Refusal.{Outcome, ◌▷◌, refuse}
use Rattle.spec.specs.Frame.{settings_of, pixels, plan_of, value_part}
use Rattle.spec.specs.Checks.{contents, trailer_outcome}

-- ---- a plane

-- the high byte, the low byte of each number of a plane, which has two bytes for each, high byte first
unfoldable pub high_bytes : List ℕ → List ℕ
high_bytes [] = []
high_bytes (high ∷ []) = []
high_bytes (high ∷ low ∷ plane) = high ∷ high_bytes plane

unfoldable pub low_bytes : List ℕ → List ℕ
low_bytes [] = []
low_bytes (high ∷ []) = []
low_bytes (high ∷ low ∷ plane) = low ∷ low_bytes plane

-- the plane whose numbers have these high bytes and these low bytes
unfoldable pub in_turn : List ℕ → List ℕ → List ℕ
in_turn [] lows = []
in_turn (high ∷ highs) [] = []
in_turn (high ∷ highs) (low ∷ lows) = high ∷ low ∷ in_turn highs lows

-- a plane split; and one of n numbers that was split, joined
unfoldable pub split_plane : List ℕ → List ℕ
split_plane plane = high_bytes plane ++ low_bytes plane

unfoldable pub joined_plane : ℕ → List ℕ → List ℕ
joined_plane n plane = in_turn (take n plane) (drop n plane)

-- ---- a file

-- other bytes in the place of the value plane; every other byte of the file stays
unfoldable pub with_plane : List ℕ → List ℕ → List ℕ
with_plane b plane = take (plan_of b).value b ++ plane ++ drop ((plan_of b).value + 2 * pixels (settings_of b)) b

unfoldable pub split_file : List ℕ → List ℕ
split_file b = with_plane b (split_plane (value_part b))

unfoldable pub joined_file : List ℕ → List ℕ
joined_file b = with_plane b (joined_plane (pixels (settings_of b)) (value_part b))

-- ---- the checks of the two calls

-- m bytes from byte a on and n bytes from byte c on have one in common
unfoldable pub overlap : ℕ → ℕ → ℕ → ℕ → Bool
overlap a m c n = ltb (max a c) (min (a + m) (c + n))

-- check 14: the guide plane, or the table where the file has its own, overlaps the value plane
unfoldable pub bad_overlap : Plan → Bool
bad_overlap plan =
    let n = 2 * (plan.width * plan.height) in
    overlap plan.value n plan.guide n || overlap plan.value n plan.table (2 * plan.weights)

-- into an output of room bytes: 14 comes after the distances, before the contents
unfoldable pub split_outcome : List ℕ → ℕ → Outcome
split_outcome b room = trailer_outcome b ▷ refuse 14 (bad_overlap (plan_of b)) ▷ contents b (plan_of b) ▷ refuse 11 (ltb room (length b))

-- the contents are not looked at: a split plane holds no levels
unfoldable pub join_outcome : List ℕ → ℕ → Outcome
join_outcome b room = trailer_outcome b ▷ refuse 14 (bad_overlap (plan_of b)) ▷ refuse 11 (ltb room (length b))
