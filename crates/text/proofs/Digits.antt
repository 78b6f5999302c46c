-- A number's decimal digits: the last one behind the decimal digits of the tenth.
-- Assumes nothing.
use Prim.Native.Nat.{ℕ, zero, suc, ◌+◌, ◌/◌, ◌%◌, ◌^◌, ◌≤◌, ◌<◌}
use mathlib.Core.Path.{◌≡◌, sym, ap, ◌∙◌}
use mathlib.Core.List.{List, [], ◌∷◌, ◌++◌}
use native.Mathlib.Omega.{arith}
use lib.Dec.{ltb}
use borrow.Author.Tests.{lt-ltb, le-ltb}
use Rattle.std.specs.Prelude.{if◌then◌else◌}
use Rattle.spec.specs.Program.{digits, decimal}

-- room for one digit more changes nothing, where those at hand are enough
digits_more : (k n : ℕ) → n < 10 ^ suc k → digits (suc k) n ≡ digits k n
unfolding digits
digits_more zero n h = let l : n < 10 = omega arith in rw (lt-ltb n 10 l)
digits_more (suc k) n h = ap (λ (l : List ℕ). (if ltb n 10 then [] else l) ++ ((48 + n % 10) ∷ [])) (digits_more k (n / 10) (omega arith))

pub decimal-low : (n : ℕ) → n < 10 → decimal n ≡ (48 + n % 10) ∷ []
unfolding digits
decimal-low n h = rw (lt-ltb n 10 h)

digits-next : (k n : ℕ) → 10 ≤ n → digits (suc k) n ≡ digits k (n / 10) ++ ((48 + n % 10) ∷ [])
unfolding digits
digits-next k n h = rw (le-ltb n 10 h)

pub decimal-high : (n : ℕ) → 10 ≤ n → n < 2 ^ 64 → decimal n ≡ decimal (n / 10) ++ ((48 + n % 10) ∷ [])
decimal-high n h l = digits-next 18 n h ∙ ap (λ (x : List ℕ). x ++ ((48 + n % 10) ∷ [])) (sym (digits_more 18 (n / 10) (omega arith)))
