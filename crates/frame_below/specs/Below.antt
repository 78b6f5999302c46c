-- Numbers below a limit, from the first one on.
-- Assumes nothing.
use Rattle.std.specs.Prelude.{ℕ, ◌<◌}

-- the first n numbers are
abbrev pub Below : (ℕ → ℕ) → ℕ → ℕ → Type 0
Below number n limit = (j : ℕ) → j < n → number j < limit
