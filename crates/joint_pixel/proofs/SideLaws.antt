-- Laws of a pixel in the balance box.
-- Assumes nothing.
use mathlib.Core.Path.{◌≡◌, refl, sym}
use mathlib.Core.Bool.{Bool, true, false, beq}
use Prim.Native.Nat.{ℕ, ◌≤◌, ◌<◌}
use native.Mathlib.Omega.{arith}
use lib.Dec.{leb, eqb}
use lib.IntN.{ℤ, pos, negsuc, nat_abs, ◌+ℤ◌, ◌-ℤ◌}
use borrow.Author.Tests.{eq-eqb, ne_eqb, le-leb, lt-leb}
use Rattle.std.specs.Prelude.{if◌then◌else◌}
use Rattle.std.specs.Ordering.{is_le, nat_cmp}
use Rattle.std.proofs.lemmas.Bool.Decides.{nat_tests}
use Rattle.pixels.specs.Additive.{changedℤ}
use Rattle.joint_pixel.specs.Side.{side, side_of}

-- ---- sides
pub side-low : (c i : ℕ) → i ≤ c → side c i ≡ pos 1
unfolding side
side-low c i h = rw (le-leb i c h)

pub side-high : (c i : ℕ) → c < i → side c i ≡ negsuc 0
unfolding side
side-high c i h = rw (lt-leb i c h)

pub side-here : (c i f : ℕ) → side_of c f i f ≡ side c i
unfolding side_of
side-here c i f = rw (eq-eqb f f refl)

pub side-away : (c i f g : ℕ) → (f ≡ g → ⊥) → side_of c f i g ≡ pos 0
unfolding side_of
side-away c i f g n = rw (ne_eqb g f (λ e. n (sym e)))

pub side-abs : (c f i g : ℕ) → nat_abs (side_of c f i g) ≤ 1
unfolding side_of side
side-abs c f i g = go (eqb g f) (leb i c)
  where
    go : (p q : Bool) → nat_abs (if p then (if q then pos 1 else negsuc 0) else pos 0) ≤ 1
    go true true = omega arith
    go true false = omega arith
    go false q = omega arith

-- ---- a cell's change, as the code has it: up where the pixel enters at the cut point or below it, or leaves above it
at-or-below : (i c : ℕ) → is_le (nat_cmp i c) ≡ leb i c
at-or-below i c = grind (arith, nat_tests)

pub changed-up : (w : Bool) (c i : ℕ) (x : ℤ) (b : Bool) → b ≡ is_le (nat_cmp i c) → beq b w ≡ true → changedℤ w x (side c i) ≡ x +ℤ pos 1
unfolding changedℤ side
changed-up w c i x b e h = go w (leb i c) (rw (e, at-or-below i c) at h)
  where
    go : (w p : Bool) → beq p w ≡ true → changedℤ w x (if p then pos 1 else negsuc 0) ≡ x +ℤ pos 1
    go true true h = refl
    go false false h = refl
    go true false h = cc
    go false true h = cc

pub changed-down : (w : Bool) (c i : ℕ) (x : ℤ) (b : Bool) → b ≡ is_le (nat_cmp i c) → beq b w ≡ false → changedℤ w x (side c i) ≡ x -ℤ pos 1
unfolding changedℤ side
changed-down w c i x b e h = go w (leb i c) (rw (e, at-or-below i c) at h)
  where
    go : (w p : Bool) → beq p w ≡ false → changedℤ w x (if p then pos 1 else negsuc 0) ≡ x -ℤ pos 1
    go true false h = refl
    go false true h = refl
    go true true h = cc
    go false false h = cc
