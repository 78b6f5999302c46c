-- Every other byte of a file.
-- Assumes nothing.
use Rattle.std.specs.Prelude.{ℕ, ◌+◌, ◌*◌, List, get_or}
use Rattle.spec.specs.Base.{tabulate}

-- n bytes, two apart, from one on
unfoldable pub every_other : List ℕ → ℕ → ℕ → List ℕ
every_other b from n = tabulate n (λ q. get_or b (from + 2 * q) 0)
