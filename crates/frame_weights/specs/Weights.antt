-- The built-in constants.
-- Assumes nothing.
use Rattle.std.specs.Prelude.{ℕ, ◌+◌, ◌/◌, List}
use Rattle.spec.specs.Base.{tabulate}

-- for each difference d from 0 to 255 the whole part of 4096 / (16 + d)
unfoldable pub built_in_list : List ℕ
built_in_list = tabulate 256 (λ d. 4096 / (16 + d))
