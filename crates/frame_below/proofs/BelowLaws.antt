-- Laws of numbers below a limit, of any numbers: one more of which the largest is known, and so many more; and numbers with bits of others.
-- Assumes nothing.
use mathlib.Core.Path.{◌≡◌, refl, subst}
use mathlib.Core.List.{List}
use Prim.Native.Nat.{ℕ, ◌+◌, ◌*◌, ◌/◌, ◌%◌, ◌≤◌, ◌<◌}
use native.Mathlib.Omega.{arith}
use lib.Bits.{bit_or, or_add_and, and_le_l, and_le_r, or_mod, or_shr}
use borrow.Author.Count.{below_more}
use mathlib.Core.Bool.{Bool, true, false}
use Rattle.std.proofs.lemmas.Bool.Decides.{nat_tests}
use Rattle.spec.specs.Bytes.{AllBytes}
use Rattle.spec.specs.Checks.{judged}
use Rattle.big_endian_part.specs.Part.{low_first, exchanged}
use Rattle.ints.specs.Order.{lt-or-le}
use mathlib.Core.Logic.{⊎_elim}
use Prim.Native.Nat.{◌-◌}
use Rattle.frame_below.specs.Below.{Below}

pub most-next : (number : ℕ → ℕ) {j most next : ℕ} → Below number j (most + 1) → most ≤ next → number j ≤ next → Below number (j + 1) (next + 1)
most-next number {j} {most} {next} b h l = below_more (λ (i : ℕ). number i < next + 1) j (λ i less. omega (arith, b i less)) (omega arith)

pub run-below : (number : ℕ → ℕ) (k m : ℕ) {limit : ℕ} → Below number k limit → Below (λ j. number (k + j)) m limit → Below number (k + m) limit
run-below number k m {limit} before run j l =
    ⊎_elim (λ less. before j less)
    (λ past.
    let place : k + (j - k) ≡ j = omega arith in
    subst (λ (i : ℕ). number i < limit) place (run (j - k) (omega arith)))
    (lt-or-le j k)

-- a run of 64 behind so many runs
pub runs-below : (number : ℕ → ℕ) (run : ℕ) {limit : ℕ} → Below number (64 * run) limit → Below (λ j. number (64 * run + j)) 64 limit →
    Below number (64 * (run + 1)) limit
runs-below number run before here j l = run-below number (64 * run) 64 before here j (omega arith)

-- ---- the bits of two numbers together: no byte of either is larger than theirs, so neither is with its bytes exchanged
or_left : (a b : ℕ) → a ≤ bit_or a b
or_left a b = omega (arith, or_add_and a b, and_le_r a b)

or_right : (a b : ℕ) → b ≤ bit_or a b
or_right a b = omega (arith, or_add_and a b, and_le_l a b)

pub bits_left : (a b : ℕ) → exchanged a ≤ exchanged (bit_or a b)
unfolding exchanged
bits_left a b =
    omega (arith, or_mod a b 8, or_shr a b 8, or_left (a % 256) (b % 256), or_left (a / 256) (b / 256))

pub bits-right : (a b : ℕ) → exchanged b ≤ exchanged (bit_or a b)
unfolding exchanged
bits-right a b =
    omega (arith, or_mod a b 8, or_shr a b 8, or_right (a % 256) (b % 256), or_right (a / 256) (b / 256))

pub low-first-small : (b : List ℕ) → AllBytes b → (start q : ℕ) → low_first b start q < 65536
unfolding low_first
low-first-small b bytes start q = omega (arith, bytes (start + 2 * q), bytes (start + 2 * q + 1))

-- no reading has the same two bytes, so a number may be judged before its bytes are exchanged
pub judged-exchanged : (values : Bool) (n : ℕ) → n < 65536 → judged values (exchanged n) ≡ exchanged (judged values n)
unfolding exchanged
judged-exchanged false n h = refl
judged-exchanged true n h = grind (arith, nat_tests)
