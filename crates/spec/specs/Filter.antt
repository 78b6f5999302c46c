-- The filter: its walk through the whole picture, and its plane of answers.
-- Assumes nothing.
use Rattle.std.specs.Prelude.{ℕ, ◌+◌, ◌-◌, ◌/◌, ◌%◌, List, eqb, if◌then◌else◌}
use Rattle.spec.specs.declared.Settings.{Settings}
use Rattle.spec.specs.declared.Way.{Way}
use Rattle.spec.specs.Base.{tabulate}
use Rattle.spec.specs.Frame.{Frame, pixels}
use Rattle.spec.specs.Median.{answer}
use Rattle.spec.specs.Walk.{State, walk_end}

-- byte i of the walk through a picture w wide: down at a row's end, else rightward in even rows and leftward in odd ones
unfoldable pub turn : ℕ → ℕ → ℕ
turn w i = if eqb ((i + 1) % w) 0 then 2 else (i / w) % 2

unfoldable pub serpentine : Settings → List ℕ
serpentine settings = tabulate (pixels settings - 1) (turn settings.width)

-- each answer at its pixel's place
unfoldable pub filtered : Frame → List ℕ
filtered p = tabulate (pixels p.set) (λ q. answer p (q % p.set.width) (q / p.set.width))

unfoldable pub filter_end : Way → Frame → State
filter_end way p = walk_end way p 0 0 (serpentine p.set)
