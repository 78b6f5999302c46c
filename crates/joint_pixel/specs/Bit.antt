-- Bits of a 64-bit word.
-- Assumes nothing.
use Rattle.std.specs.Prelude.{ℕ, ◌-◌, ◌*◌, ◌/◌, ◌%◌, ◌^◌}
use Rattle.std.specs.Int.Bits.{bit_and, bit_or}

-- bit b of word, 0 or 1
unfoldable pub bit : ℕ → ℕ → ℕ
bit word b = word / 2 ^ b % 2

-- word with bit b set
unfoldable pub with_bit : ℕ → ℕ → ℕ
with_bit word b = bit_or word (2 ^ b)

-- word with bit b cleared where e is 1, and as it is where e is 0
unfoldable pub without_bit : ℕ → ℕ → ℕ → ℕ
without_bit word b e = bit_and word ((2 ^ 64 - 1) - e * 2 ^ b)
