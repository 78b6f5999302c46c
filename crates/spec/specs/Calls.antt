-- Which way a number names, how long its stores are and what they hold; and the outcomes of walk, filter, balance and explain.
-- Assumes nothing.
use Rattle.std.specs.Prelude.{ℕ, ◌+◌, ◌*◌, ◌≡◌, Bool, not, ◌&&◌, ◌||◌, List, [], ltb, eqb, take, replicate, ℤ, pos, if◌then◌else◌}
use Rattle.spec.specs.declared.Settings.{Settings}
use Rattle.spec.specs.declared.Room.{Room}
use Rattle.spec.specs.declared.Way.{Way}
use Rattle.spec.specs.declared.Way.TheVariants.{Joint, Columns, Chain, Coarse}
use Rattle.spec.specs.Refusal.{Outcome, ◌▷◌, refuse}
use Rattle.spec.specs.Frame.{Frame, settings_of, pixels}
use Rattle.spec.specs.Checks.{outside, verdict}
use Rattle.spec.specs.Joint.{joint_counts, words_per_level, occupancy_words, balance_box_at}
use Rattle.spec.specs.Columns.{column_store}
use Rattle.spec.specs.Chain.{node_count, ChainStore}
use Rattle.spec.specs.Coarse.{block_count, summary}

-- ---- ways

-- the way that a number names, where check 8 lets it pass
unfoldable pub way_of : ℕ → Way
way_of n = if eqb n 1 then Joint else if eqb n 2 then Columns else if eqb n 3 then Chain else Coarse

-- ways 1 and 4 serve both kinds, the others kind 2 (`way-serves` of proofs/Calls)
abbrev pub BothKinds : Way → Type 0
BothKinds Joint = Unit
BothKinds Columns = ⊥
BothKinds Chain = ⊥
BothKinds Coarse = Unit

unfoldable pub bad_way : Settings → ℕ → Bool
bad_way settings n = outside 1 4 n || (not (eqb n 1 || eqb n 4) && not (eqb settings.kind 2))

-- how much of each store a way uses
abbrev pub joint_room : Settings → ℕ → Room
joint_room settings blocks =
    record { counts = settings.levels * settings.guides; words = settings.levels * words_per_level settings; numbers = 0; summary = blocks }

abbrev pub numbers_room : ℕ → Room
numbers_room n = record { counts = 0; words = 0; numbers = n; summary = 0 }

unfoldable pub room_of : Way → Settings → Room
room_of Joint settings = joint_room settings 0
room_of Columns settings = numbers_room (2 * (settings.width * settings.levels) + 2 * settings.levels)
room_of Chain settings = numbers_room (1 + 4 * node_count settings)
room_of Coarse settings = joint_room settings (block_count settings)

-- ---- what the stores hold for the window at (s, t): nothing where a way has no such store

unfoldable pub counts_of : Way → Frame → ℕ → ℕ → List ℕ
counts_of Joint p s t = joint_counts p s t
counts_of Columns p s t = []
counts_of Chain p s t = []
counts_of Coarse p s t = joint_counts p s t

unfoldable pub words_of : Way → Frame → ℕ → ℕ → List ℕ
words_of Joint p s t = occupancy_words p s t
words_of Columns p s t = []
words_of Chain p s t = []
words_of Coarse p s t = occupancy_words p s t

unfoldable pub NumbersOf : Way → Frame → ℕ → ℕ → List ℕ → Type 0
NumbersOf Joint p s t m = Unit
NumbersOf Columns p s t m = take (room_of Columns p.set).numbers m ≡ column_store p s t
NumbersOf Chain p s t m = ChainStore p s t m
NumbersOf Coarse p s t m = Unit

unfoldable pub summary_of : Way → Frame → ℕ → ℕ → List ℤ
summary_of Joint p s t = []
summary_of Columns p s t = []
summary_of Chain p s t = []
summary_of Coarse p s t = summary p s t

abbrev pub zeros : List ℤ
zeros = replicate 256 (pos 0)

-- the box that comes back, at the cut point c
unfoldable pub box_of : Way → Frame → ℕ → ℕ → ℕ → List ℤ
box_of Joint p s t c = balance_box_at p s t c
box_of Columns p s t c = zeros
box_of Chain p s t c = zeros
box_of Coarse p s t c = zeros

-- ---- checks 8 to 11

unfoldable pub bad_pixel : Settings → ℕ → ℕ → Bool
bad_pixel settings s t = not (ltb s settings.width && ltb t settings.height)

-- what a call was lent falls short of what the way uses
unfoldable pub lacks : Room → Room → Bool
lacks need have =
    ltb have.counts need.counts || ltb have.words need.words || ltb have.numbers need.numbers
    || ltb have.summary need.summary

-- a store, or an answer buffer or output that is to take n numbers, is too short
unfoldable pub short : Settings → ℕ → Room → ℕ → ℕ → Bool
short settings way have out n = lacks (room_of (way_of way) settings) have || ltb out n

-- a walk of n moves from (s, t), lent these stores and an answer buffer of so many numbers: its own checks, and all of them
unfoldable pub walk_checks : Settings → ℕ → ℕ → ℕ → ℕ → Room → ℕ → Outcome
walk_checks settings way s t n have out =
    refuse 8 (bad_way settings way) ▷ refuse 9 (bad_pixel settings s t) ▷ refuse 10 (ltb 1048576 n) ▷ refuse 11 (short settings way have out (n + 1))

unfoldable pub walk_outcome : List ℕ → ℕ → ℕ → ℕ → ℕ → Room → ℕ → Outcome
walk_outcome b way s t n have out = verdict b ▷ walk_checks (settings_of b) way s t n have out

unfoldable pub filter_checks : Settings → ℕ → Room → ℕ → Outcome
filter_checks settings way have out = refuse 8 (bad_way settings way) ▷ refuse 11 (short settings way have out (pixels settings))

unfoldable pub filter_outcome : List ℕ → ℕ → Room → ℕ → Outcome
filter_outcome b way have out = verdict b ▷ filter_checks (settings_of b) way have out

unfoldable pub balance_checks : Settings → ℕ → ℕ → ℕ → Outcome
balance_checks settings s t i = refuse 9 (bad_pixel settings s t || not (ltb i settings.levels))

unfoldable pub balance_outcome : List ℕ → ℕ → ℕ → ℕ → Outcome
balance_outcome b s t i = verdict b ▷ balance_checks (settings_of b) s t i

unfoldable pub explain_checks : Settings → ℕ → ℕ → Outcome
explain_checks settings s t = refuse 9 (bad_pixel settings s t)

unfoldable pub explain_outcome : List ℕ → ℕ → ℕ → Outcome
explain_outcome b s t = verdict b ▷ explain_checks (settings_of b) s t
