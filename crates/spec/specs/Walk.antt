-- The walk: its moves, its answers, its cut point and its shift count.
-- Assumes nothing.
use Rattle.std.specs.Prelude.{ℕ, ◌+◌, ◌-◌, ◌/◌, ◌%◌, Bool, true, false, List, [], ◌∷◌, ltb, eqb, get_or, take, if◌then◌else◌}
use Rattle.spec.specs.declared.Settings.{Settings}
use Rattle.spec.specs.declared.Answer.{Answer}
use Rattle.spec.specs.declared.Way.{Way}
use Rattle.spec.specs.declared.Way.TheVariants.{Joint, Columns, Chain, Coarse}
use Rattle.spec.specs.declared.Move.{Move}
use Rattle.spec.specs.declared.Move.TheVariants.{To, Nowhere}
use Rattle.spec.specs.Base.{distance}
use Rattle.spec.specs.Frame.{Frame, no_reading}
use Rattle.spec.specs.Window.{empty}
use Rattle.spec.specs.Weight.{monotone}
use Rattle.spec.specs.Median.{median, answer}

-- the number that an answer is lent as, for each case of the code's enum
abbrev pub answer_number : Answer → ℕ
answer_number (Answer.Level level) = level.0
answer_number Answer.NoReading = no_reading
answer_number (Answer.Mark mark) = mark

-- the walk after some bytes: the way that counts its shifts, its pixel, its cut point, its shift count, and its last answer
pub record State : Type 0 where
  pub way : Way
  pub column : ℕ
  pub row : ℕ
  pub cut : ℕ
  pub shifts : ℕ
  pub answer : ℕ

-- ---- documents 01 and 02: what a window adds to the shift count, demand 3's rule of each way

-- ways 1 to 3 count levels from the cut point, way 4 blocks of 16 levels and then levels
abbrev pub by_blocks : Way → Bool
by_blocks Joint = false
by_blocks Columns = false
by_blocks Chain = false
by_blocks Coarse = true

-- to the answer m of a window that is steady, with cut point c before it: by blocks, those below m's own and then the levels below m inside that one
abbrev pub shifts_to : Bool → ℕ → ℕ → ℕ
shifts_to blocks m c = if blocks then m / 16 + m % 16 else distance m c

-- the window at (s, t), with cut point c before it: nothing where it has no reading; a hollow one is steady (`weightless-monotone` of proofs/Own)
unfoldable pub adds : Way → Frame → ℕ → ℕ → ℕ → ℕ
adds way p s t c =
    if empty p s t then 0 else if monotone p s t then shifts_to (by_blocks way) (median p s t) c else median p s t

-- ---- the walk

-- the cut point after the window: its median; document 02: one with no reading keeps the cut point before it
unfoldable pub next_cut : Frame → ℕ → ℕ → ℕ → ℕ
next_cut p s t c = if empty p s t then c else median p s t

-- at a new pixel, with cut point c and shift count n before it: what the window there answers and adds, and the next cut point
unfoldable pub arrive : Way → Frame → ℕ → ℕ → ℕ → ℕ → State
arrive way p s t c n =
    record {
      way = way;
      column = s;
      row = t;
      cut = next_cut p s t c;
      shifts = n + adds way p s t c;
      answer = answer p s t;
    }

-- where a byte leads
abbrev pub to_if : Bool → ℕ → ℕ → Move
to_if true s t = To s t
to_if false s t = Nowhere 65534

unfoldable pub move : Settings → ℕ → ℕ → ℕ → Move
move settings s t b =
    if eqb b 0 then to_if (ltb (s + 1) settings.width) (s + 1) t
    else if eqb b 1 then to_if (ltb 0 s) (s - 1) t
    else if eqb b 2 then to_if (ltb (t + 1) settings.height) s (t + 1)
    else if eqb b 3 then to_if (ltb 0 t) s (t - 1)
    else Nowhere 65533

unfoldable pub follow : Frame → State → Move → State
follow p x (To s t) = arrive x.way p s t x.cut x.shifts
follow p x (Nowhere mark) = record { way = x.way; column = x.column; row = x.row; cut = x.cut; shifts = x.shifts; answer = mark }

unfoldable pub step : Frame → State → ℕ → State
step p x b = follow p x (move p.set x.column x.row b)

-- the state after a list of bytes, and the answers on the way: one before the first byte and one after each
unfoldable pub after : Frame → State → List ℕ → State
after p x [] = x
after p x (b ∷ bs) = after p (step p x b) bs

unfoldable pub answers : Frame → State → List ℕ → List ℕ
answers p x [] = x.answer ∷ []
answers p x (b ∷ bs) = x.answer ∷ answers p (step p x b) bs

-- a walk from a pixel by a way: its first state and its last one
abbrev pub start : Way → Frame → ℕ → ℕ → State
start way p s t = arrive way p s t 0 0

unfoldable pub walk_end : Way → Frame → ℕ → ℕ → List ℕ → State
walk_end way p s t bs = after p (start way p s t) bs

-- its answers: the same by every way (`walk-answers` of proofs/Walks), so that the first stands for all
unfoldable pub walk_answers : Frame → ℕ → ℕ → List ℕ → List ℕ
walk_answers p s t bs = answers p (start Joint p s t) bs

-- ---- what each byte adds

-- a byte in a state, by where it leads
unfoldable pub added : Frame → State → Move → ℕ
added p x (To s t) = adds x.way p s t x.cut
added p x (Nowhere mark) = 0

-- byte j of a list, from a state
unfoldable pub added_at : Frame → State → List ℕ → ℕ → ℕ
added_at p x bs j = let y = after p x (take j bs) in added p y (move p.set y.column y.row (get_or bs j 0))
