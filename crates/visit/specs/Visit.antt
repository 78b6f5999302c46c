-- A visit in the definitions' words.
-- Assumes nothing.
use Rattle.std.specs.Prelude.{ℕ, ◌≤◌, ◌<◌}
use Rattle.spec.specs.declared.Answer.{Answer}
use Rattle.spec.specs.declared.Level.{Level}
use Rattle.spec.specs.declared.Plan.{Plan}
use Rattle.spec.specs.declared.Way.{Way}
use Rattle.spec.specs.Walk.{State, answer_number}
use Rattle.window.specs.declared.sums.Sums.{Sums}
use Rattle.chain_nodes.specs.declared.FreeList.{FreeList}
use Rattle.visit.specs.declared.Running.{Running}
use Rattle.visit.specs.declared.Visit.{Visit}

-- the state of the definitions that a visit by a way stands for
abbrev pub state_of : Way → Visit → State
state_of way v =
    record { way = way; column = v.column; row = v.row; cut = v.cut.0; shifts = v.shifts; answer = answer_number v.answer }

-- the visit of a window with a reading: its level is the answer and the new cut point
abbrev pub answered : ℕ → ℕ → Level → ℕ → Running → Visit
answered s t level shifts running =
    record { column = s; row = t; cut = level; shifts = shifts; answer = Answer.Level level; running = running }

-- the visit of a window with no reading: the cut point and the shift count stay, and the tally of its pixels is 0
abbrev pub unread : ℕ → ℕ → Level → ℕ → Sums → FreeList → Visit
unread s t cut shifts sums free =
    record {
      column = s;
      row = t;
      cut = cut;
      shifts = shifts;
      answer = Answer.NoReading;
      running = record { sums = sums; below = record { count = 0; sum = 0 }; free = free };
    }

-- a visit inside the picture, its cut point a level, its shift count in 32 bits
pub record Within (plan : Plan) (v : Visit) : Type 0 where
  pub column : v.column < plan.width
  pub row : v.row < plan.height
  pub cut : v.cut.0 < plan.levels
  pub shifts : v.shifts ≤ 4294967295
