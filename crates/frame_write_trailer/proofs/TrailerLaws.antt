-- How many bytes a trailer's two parts have, and the whole. Assumes nothing.
use mathlib.Core.Path.{◌≡◌, refl}
use mathlib.Core.List.{◌++◌}
use Prim.Native.Nat.{ℕ}
use native.Mathlib.Omega.{arith}
use lib.ListN.{length, length-append}
use Rattle.spec.specs.declared.Settings.{Settings}
use Rattle.spec.specs.Bytes.{to16, to32}
use Rattle.spec.specs.Writer.{field_bytes, distance_bytes}

pub fields-long : (k : Settings) → length (field_bytes k) ≡ 12
unfolding field_bytes to16
fields-long k = refl

pub distances-long : (n p : ℕ) → length (distance_bytes n p) ≡ 16
unfolding distance_bytes to32 to16
distances-long n p = refl

pub trailer-long : (k : Settings) (n p : ℕ) → length (field_bytes k ++ distance_bytes n p) ≡ 28
trailer-long k n p = simp length-append (omega (arith, fields-long k, distances-long n p))
