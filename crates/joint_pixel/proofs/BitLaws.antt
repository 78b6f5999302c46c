-- Laws of single bits, and of the lowest one that is set.
-- Assumes nothing.
use mathlib.Core.Path.{◌≡◌, refl, sym, ap, ◌∙◌}
use Prim.Native.Nat.{ℕ, zero, suc, ◌-◌, ◌*◌, ◌/◌, ◌%◌, ◌^◌, ◌≤◌, ◌<◌, min, max}
use native.Mathlib.Nat.{
  pow-succ',
  div-div-eq-div-mul,
  div-one,
  mod-lt,
  div_self,
  lt_of_le_of_lt,
  le_of_suc-le-suc,
  zero-mul,
  one-mul,
  mul-le-mul,
  le_refl,
}
use native.Mathlib.Omega.{arith}
use lib.Dec.{lit<}
use lib.Arith.{digits_mod}
use lib.Pow.{pow_pos, pow-lt, shl_exact}
use lib.Bits.{bit_and, bit_or, or_shr, or_step, and_shr, and_step}
use lib.Count.{count_trailing_zeros, under}
use Rattle.joint_pixel.specs.Bit.{bit, with_bit, without_bit}
pub use Rattle.ints.specs.Order.{lt-or-le, eq-or-ne}

-- `1 << b`
pub one_shl : (b : ℕ) → b < 64 → 1 * 2 ^ b % 2 ^ 64 ≡ 2 ^ b
one_shl b h = shl_exact 1 b 64 (lit< tt) (omega arith) ∙ one-mul (2 ^ b)

pub bit-zero : (n : ℕ) → bit n 0 ≡ n % 2
unfolding bit
bit-zero n = ap (λ (x : ℕ). x % 2) (div-one n)

pub bit-suc : (n j : ℕ) → bit n (suc j) ≡ bit (n / 2) j
unfolding bit
bit-suc n j = ap (λ (x : ℕ). n / x % 2) (pow-succ' 2 j) ∙ ap (λ (x : ℕ). x % 2) (sym (div-div-eq-div-mul n 2 (2 ^ j)))

pub bit-lt : (n j : ℕ) → bit n j < 2
unfolding bit
bit-lt n j = mod-lt (n / 2 ^ j) (lit< tt)

-- bits of a sum of bits
pub bit-or : (a b j : ℕ) → bit (bit_or a b) j ≡ max (bit a j) (bit b j)
unfolding bit
bit-or a b j =
    ap (λ (x : ℕ). x % 2) (or_shr a b j ∙ or_step (a / 2 ^ j) (b / 2 ^ j))
    ∙ digits_mod (bit_or (a / 2 ^ j / 2) (b / 2 ^ j / 2)) (omega arith)

pub bit-and : (a b j : ℕ) → bit (bit_and a b) j ≡ min (bit a j) (bit b j)
unfolding bit
bit-and a b j =
    ap (λ (x : ℕ). x % 2) (and_shr a b j ∙ and_step (a / 2 ^ j) (b / 2 ^ j))
    ∙ digits_mod (bit_and (a / 2 ^ j / 2) (b / 2 ^ j / 2)) (omega arith)

pub bit-none : (j : ℕ) → bit 0 j ≡ 0
bit-none zero = bit-zero 0
bit-none (suc j) = bit-suc 0 j ∙ bit-none j

-- bits of a power
pub bit-pow-same : (b : ℕ) → bit (2 ^ b) b ≡ 1
unfolding bit
bit-pow-same b = ap (λ (x : ℕ). x % 2) (div_self (pow_pos b))

pub bit-pow-other : (b j : ℕ) → (j ≡ b → ⊥) → bit (2 ^ b) j ≡ 0
bit-pow-other zero zero h = absurd (h refl)
bit-pow-other zero (suc j) h = bit-suc 1 j ∙ bit-none j
bit-pow-other (suc b) zero h = bit-zero (2 ^ suc b) ∙ ap (λ (x : ℕ). x % 2) (pow-succ' 2 b) ∙ omega arith
bit-pow-other (suc b) (suc j) h =
    bit-suc (2 ^ suc b) j ∙ ap (λ (x : ℕ). bit (x / 2) j) (pow-succ' 2 b) ∙ ap (λ (x : ℕ). bit x j) half
    ∙ bit-pow-other b j (λ e. h (ap suc e))
  where
    half : 2 * 2 ^ b / 2 ≡ 2 ^ b
    half = omega arith

-- bits of a complement within k bits
pub bit_not : (k x j : ℕ) → x < 2 ^ k → j < k → bit ((2 ^ k - 1) - x) j ≡ 1 - bit x j
bit_not zero x j hx hj = absurd (omega arith)
bit_not (suc k) x zero hx hj =
    bit-zero ((2 ^ suc k - 1) - x) ∙ go (2 ^ suc k) (2 ^ k) (pow-succ' 2 k) hx ∙ ap (λ (y : ℕ). 1 - y) (sym (bit-zero x))
  where
    go : (p q : ℕ) → p ≡ 2 * q → x < p → (p - 1 - x) % 2 ≡ 1 - x % 2
    go p q e h = omega arith
bit_not (suc k) x (suc j) hx hj =
    bit-suc ((2 ^ suc k - 1) - x) j
    ∙ ap (λ (y : ℕ). bit y j) (go (2 ^ suc k) (2 ^ k) (pow-succ' 2 k) hx)
    ∙ bit_not k (x / 2) j (less (2 ^ suc k) (2 ^ k) (pow-succ' 2 k) hx) (le_of_suc-le-suc hj)
    ∙ ap (λ (y : ℕ). 1 - y) (sym (bit-suc x j))
  where
    go : (p q : ℕ) → p ≡ 2 * q → x < p → (p - 1 - x) / 2 ≡ q - 1 - x / 2
    go p q e h = omega arith

    less : (p q : ℕ) → p ≡ 2 * q → x < p → x / 2 < q
    less p q e h = omega arith

-- bits above the width
pub bit_high : (k x j : ℕ) → x < 2 ^ k → k ≤ j → bit x j ≡ 0
bit_high zero x j hx hj = ap (λ (y : ℕ). bit y j) (none x hx) ∙ bit-none j
  where
    none : (x : ℕ) → x < 1 → x ≡ 0
    none x h = omega arith
bit_high (suc k) x zero hx hj = absurd (omega arith)
bit_high (suc k) x (suc j) hx hj = bit-suc x j ∙ bit_high k (x / 2) j (less (2 ^ suc k) (2 ^ k) (pow-succ' 2 k) hx) (le_of_suc-le-suc hj)
  where
    less : (p q : ℕ) → p ≡ 2 * q → x < p → x / 2 < q
    less p q e h = omega arith

-- a bit set, and a bit cleared or not
pub set_here : (w b : ℕ) → bit (with_bit w b) b ≡ 1
unfolding with_bit
set_here w b = bit-or w (2 ^ b) b ∙ omega (arith, bit-pow-same b, bit-lt w b)

pub set_other : (w b j : ℕ) → (j ≡ b → ⊥) → bit (with_bit w b) j ≡ bit w j
unfolding with_bit
set_other w b j n = bit-or w (2 ^ b) j ∙ omega (arith, bit-pow-other b j n)

-- `e << b`
pub shl_one : (e b : ℕ) → e ≤ 1 → b < 64 → e * 2 ^ b % 2 ^ 64 ≡ e * 2 ^ b
shl_one e b l h = shl_exact 1 b 64 (omega arith) (omega arith)

shl-low : (e b : ℕ) → e ≤ 1 → b < 64 → e * 2 ^ b < 2 ^ 64
shl-low e b l h = go (2 ^ b) (2 ^ 64) (pow-lt h)
  where
    go : (p q : ℕ) → p < q → e * p < q
    go p q k = lt_of_le_of_lt (mul-le-mul l (le_refl p)) (omega arith)

-- its bits
shl-here : (e b : ℕ) → e ≤ 1 → bit (e * 2 ^ b) b ≡ e
shl-here zero b l = rw (zero-mul (2 ^ b)) (bit-none b)
shl-here (suc zero) b l = rw (one-mul (2 ^ b)) (bit-pow-same b)
shl-here (suc (suc e)) b l = absurd (omega arith)

shl-other : (e b j : ℕ) → e ≤ 1 → (j ≡ b → ⊥) → bit (e * 2 ^ b) j ≡ 0
shl-other zero b j l n = rw (zero-mul (2 ^ b)) (bit-none j)
shl-other (suc zero) b j l n = rw (one-mul (2 ^ b)) (bit-pow-other b j n)
shl-other (suc (suc e)) b j l n = absurd (omega arith)

pub clear-here : (w b e : ℕ) → e ≤ 1 → b < 64 → bit (without_bit w b e) b ≡ min (bit w b) (1 - e)
unfolding without_bit
clear-here w b e l h =
    bit-and w ((2 ^ 64 - 1) - e * 2 ^ b) b ∙ ap (min (bit w b))
    (bit_not 64 (e * 2 ^ b) b (shl-low e b l h) h ∙ ap (λ (x : ℕ). 1 - x) (shl-here e b l))

pub clear-other : (w b e j : ℕ) → e ≤ 1 → b < 64 → j < 64 → (j ≡ b → ⊥) → bit (without_bit w b e) j ≡ bit w j
unfolding without_bit
clear-other w b e j l h k n =
    bit-and w ((2 ^ 64 - 1) - e * 2 ^ b) j ∙ omega (arith, bit_not 64 (e * 2 ^ b) j (shl-low e b l h) k, shl-other e b j l n, bit-lt w j)

-- the trailing zeros
pub tz-found : (d q : ℕ) → 0 < q → q < 2 ^ d → bit q (count_trailing_zeros d q) ≡ 1
unfolding count_trailing_zeros
tz-found zero q h k = absurd (omega arith)
tz-found (suc d) q h k = go (q % 2) refl (λ p. tz-found d (q / 2) p (less (2 ^ suc d) (2 ^ d) (pow-succ' 2 d) k))
  where
    less : (p s : ℕ) → p ≡ 2 * s → q < p → q / 2 < s
    less p s e h = omega arith

    go : (r : ℕ) → q % 2 ≡ r → (0 < q / 2 → bit (q / 2) (count_trailing_zeros d (q / 2)) ≡ 1) → bit q (under r (count_trailing_zeros d (q / 2))) ≡ 1
    go zero e ih = bit-suc q (count_trailing_zeros d (q / 2)) ∙ ih (omega arith)
    go (suc r) e ih = bit-zero q ∙ omega arith

pub tz-below : (d q j : ℕ) → j < count_trailing_zeros d q → bit q j ≡ 0
unfolding count_trailing_zeros
tz-below zero q j h = absurd (omega arith)
tz-below (suc d) q zero h = go (q % 2) refl h
  where
    go : (r : ℕ) → q % 2 ≡ r → 0 < under r (count_trailing_zeros d (q / 2)) → bit q 0 ≡ 0
    go zero e l = bit-zero q ∙ e
    go (suc r) e l = absurd (omega arith)
tz-below (suc d) q (suc j) h = go (q % 2) h (λ l. tz-below d (q / 2) j l)
  where
    go : (r : ℕ) → suc j < under r (count_trailing_zeros d (q / 2)) → (j < count_trailing_zeros d (q / 2) → bit (q / 2) j ≡ 0) → bit q (suc j) ≡ 0
    go zero l ih = bit-suc q j ∙ ih (le_of_suc-le-suc l)
    go (suc r) l ih = absurd (omega arith)
