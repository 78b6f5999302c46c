-- Laws of a cut point that moves by one level.
-- Assumes nothing.
use mathlib.Core.Path.{◌≡◌, refl, sym, ap, ◌∙◌}
use mathlib.Core.Logic.{⊎_elim}
use mathlib.Core.List.{List}
use Prim.Native.Nat.{ℕ, ◌+◌, ◌*◌, ◌^◌, ◌≤◌, ◌<◌, min}
use native.Mathlib.Omega.{arith}
use lib.ListN.{length, get_or, set, length-set}
use lib.Seq.{get_or-set_same, get_or-set_other}
use lib.IntN.{ℤ, pos, nat_abs, ◌+ℤ◌, ◌*ℤ◌, *ℤ-zero, +ℤ_idr}
use lib.Signed.{mag}
use mir.Syntax.{w16}
use mir.Val.{hbits, to_z, of_z}
use mir.Facts.{to_z-of_z}
use Rattle.ints.specs.Machine.{read-bounded}
use Rattle.joint_pixel.specs.Store.{cell_at}
use Rattle.joint_pixel.proofs.BitLaws.{lt-or-le, eq-or-ne}
use Rattle.joint_cells.specs.declared.scan.Occupied.{Occupied}
use Rattle.joint_cells.specs.Scan.{bit_of, left, place_of, IsNext, Marked}
use Rattle.joint_cells.specs.Box.{BoxInBounds, CountsAdded}
use Rattle.joint_cells.proofs.ScanLaws.{own, Along, gap-first, gap-before, gap-after, gap-last, next-low, cell-low}

module _ {m i : ℕ} {cs ws : List ℕ} (ok : Marked m i cs ws) (by : ℤ) (bx : List ℤ) where
  none : (f : ℕ) → get_or cs (cell_at m i f) 0 ≡ 0 → get_or bx f (pos 0) +ℤ by *ℤ pos (get_or cs (cell_at m i f) 0) ≡ get_or bx f (pos 0)
  none f e = rw (e, *ℤ-zero by, +ℤ_idr (get_or bx f (pos 0))) refl

  pub shift-start : (s : Occupied) → ((g : ℕ) → left s g ≡ bit_of (own ok) g) → CountsAdded m i by cs (min (place_of s) m) bx bx
  shift-start s all = record { long = refl; cells = λ f h. sym (none f (gap-first ok s all f h)); rest = λ f h. refl }

  pub shift-again : {s t : Occupied} {g : ℕ} (out : List ℤ) (v : ℤ) → length bx ≡ 256 → Along ok s → IsNext s g t →
      CountsAdded m i by cs (min (place_of s) m) bx out
      → v ≡ get_or out g (pos 0) +ℤ by *ℤ pos (get_or cs (cell_at m i g) 0) → CountsAdded m i by cs (min (place_of t) m) bx (set out g v)
  shift-again {s} {t} {g} out v long w n a e = record {
    long = length-set out g v ∙ a.long;
    cells = λ f l. ⊎_elim (at f) (off f l) (eq-or-ne f g);
    rest = λ f l. get_or-set_other out g f v (pos 0) (λ d. omega (arith, n.after, low)) ∙ a.rest f (omega (arith, n.from, n.after, low));
  }
    where
      low : g < m
      low = next-low ok w n

      at : (f : ℕ) → f ≡ g → get_or (set out g v) f (pos 0) ≡ get_or bx f (pos 0) +ℤ by *ℤ pos (get_or cs (cell_at m i f) 0)
      at f d =
          let inside : g < length out = rw (a.long, long) (omega (arith, low, ok.guides)) in
          let old : get_or out g (pos 0) ≡ get_or bx g (pos 0) = a.rest g (omega (arith, n.from)) in
          rw d (get_or-set_same out g v (pos 0) inside ∙ e ∙ ap (λ (q : ℤ). q +ℤ by *ℤ pos (get_or cs (cell_at m i g) 0)) old)

      -- from its place to g, and from g to the next place, nothing is moved and nothing is there
      off : (f : ℕ) → f < min (place_of t) m → (f ≡ g → ⊥) → get_or (set out g v) f (pos 0) ≡ get_or bx f (pos 0) +ℤ by *ℤ pos (get_or cs (cell_at m i f) 0)
      off f l d =
          get_or-set_other out g f v (pos 0) d ∙ ⊎_elim (λ x. a.cells f (omega arith))
          (λ x. a.rest f (omega arith)
          ∙ sym (none f (⊎_elim (λ y. gap-before ok w n f x y) (λ y. gap-after ok w n f (omega arith) l) (lt-or-le f g))))
          (lt-or-le f (place_of s))

  pub shift-done : (s : Occupied) (out : List ℤ) → Along ok s → ((g : ℕ) → left s g ≡ 0) →
      CountsAdded m i by cs (min (place_of s) m) bx out → CountsAdded m i by cs m bx out
  shift-done s out w p a = record {
    long = a.long;
    cells = λ f h. ⊎_elim (λ x. a.cells f (omega arith)) (λ x. a.rest f (omega arith) ∙ sym (none f (gap-last ok s w p f x h))) (lt-or-le f (place_of s));
    rest = λ f h. a.rest f (omega arith);
  }

-- ---- a turn, at the guide g that is next
module _ {m i : ℕ} {cs ws : List ℕ} (ok : Marked m i cs ws) {bx out : List ℤ} (bounds : BoxInBounds bx) {s t : Occupied} {g : ℕ}
    (w : Along ok s) (n : IsNext s g t) where
  module _ {by : ℤ} (a : CountsAdded m i by cs (min (place_of s) m) bx out) where
    old-low : nat_abs (get_or out g (pos 0)) ≤ 961
    old-low = let old : get_or out g (pos 0) ≡ get_or bx g (pos 0) = a.rest g (omega (arith, n.from)) in rw old (bounds.low g)

    -- what the step of a cell asks
    pub shift-asks : (nat_abs (to_z w16 (of_z w16 (get_or out g (pos 0)))) ≤ 961) × (get_or cs (i * m + g) 0 ≤ 961)
    shift-asks = (rw (read-bounded w16 961 old-low tt) old-low, cell-low ok g (next-low ok w n))

    -- and what it leaves
    pub shift-turn : (r : ℤ) → mag r < 2 ^ hbits w16 → r ≡ to_z w16 (of_z w16 (get_or out g (pos 0))) +ℤ by *ℤ pos (get_or cs (i * m + g) 0) →
        CountsAdded m i by cs (min (place_of t) m) bx (set out g (to_z w16 (of_z w16 r)))
    shift-turn r k e =
        shift-again ok by bx out (to_z w16 (of_z w16 r)) bounds.long w n a
        (to_z-of_z {w = w16} (record { sfits = k }) ∙ e ∙ ap (λ (q : ℤ). q +ℤ by *ℤ pos (get_or cs (i * m + g) 0)) (read-bounded w16 961 old-low tt))
