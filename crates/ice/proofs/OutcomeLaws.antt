-- The plan's settings are the file's.
-- Assumes nothing.
use Prim.Native.Nat.{ℕ}
use mathlib.Core.Path.{◌≡◌, refl}
use mathlib.Core.List.{List}
use Rattle.spec.specs.Frame.{settings_of, frame_of}

pub set-of : (b : List ℕ) → (frame_of b).set ≡ settings_of b
unfolding frame_of
set-of b = refl
