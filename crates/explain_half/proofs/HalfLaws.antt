-- Laws of sums level by level: what falls short of half so far, over one level more and over a block without a weight.
-- Assumes nothing.
use mathlib.Core.Path.{◌≡◌, refl, sym, ap, ap₂, ◌∙◌}
use mathlib.Core.List.{List}
use Prim.Native.Nat.{ℕ, zero, suc, ◌+◌, ◌-◌, ◌≤◌, ◌<◌}
use native.Mathlib.Nat.{zero-add, add-zero, add-suc}
use native.Mathlib.Omega.{arith}
use lib.Bits.{bit_or}
use lib.ListN.{length, get_or}
use lib.IntN.{ℤ, pos, ◌+ℤ◌, ◌*ℤ◌, +ℤ_idr}
use lib.Signed.{◌<ℤ◌}
use mir.Syntax.{w64}
use mir.Val.{Fits, SFits, to_z, of_z}
use Rattle.std.proofs.Common.{below_more}
use Rattle.std.proofs.lemmas.Int.{ints, to_z-of_z}
use Rattle.spec.specs.Base.{fold}
use Rattle.joint_cells.proofs.VacantLaws.{or-none}
use Rattle.explain_half.specs.Half.{up_to, Vacant, HalfInReach}

-- ---- sums of lists
pub up_to-none : (xs : List ℤ) → up_to xs 0 ≡ pos 0
unfolding up_to fold
up_to-none xs = refl

pub up_to-next : (xs : List ℤ) (i : ℕ) → up_to xs (suc i) ≡ up_to xs i +ℤ get_or xs i (pos 0)
unfolding up_to fold
up_to-next xs i = ap (λ (k : ℕ). up_to xs i +ℤ get_or xs k (pos 0)) (zero-add i)

-- over a block without a weight it stays what it is
flat : {xs : List ℤ} {i : ℕ} → Vacant xs i → (k : ℕ) → k ≤ 16 → up_to xs (i + k) ≡ up_to xs i
flat {xs} {i} v zero h = ap (up_to xs) (add-zero i)
flat {xs} {i} v (suc k) h =
    ap (up_to xs) (add-suc i k) ∙ up_to-next xs (i + k) ∙ ap₂ ◌+ℤ◌ (flat v k (omega arith)) (v.zeros k h) ∙ +ℤ_idr (up_to xs i)

pub block-next : {xs : List ℤ} {i : ℕ} → Vacant xs i → up_to xs (i + 16) ≡ up_to xs i
block-next v = flat v 16 (omega arith)

-- ---- what the levels below i weigh, and the levels below each of these, falls short
abbrev pub Short : List ℤ → ℤ → ℕ → Type 0
Short xs total i = (j : ℕ) → j ≤ i → (pos 2 *ℤ up_to xs j) <ℤ total

pub short_none : (xs : List ℤ) (total : ℤ) → pos 0 <ℤ total → Short xs total 0
short_none xs total h j l = let none = up_to-none xs in grind (arith, ints)

pub short-next : (xs : List ℤ) {total : ℤ} {i : ℕ} → Short xs total i → (pos 2 *ℤ up_to xs (suc i)) <ℤ total → Short xs total (i + 1)
short-next xs {total} {i} before here j h = grind (arith, ints)

pub short-block : {xs : List ℤ} {total : ℤ} {i : ℕ} → Vacant xs i → Short xs total i → Short xs total (i + 16)
short-block {xs} {total} {i} v before j h =
    let flat_at : i ≤ j → up_to xs (i + (j - i)) ≡ up_to xs i = λ l. flat v (j - i) (omega arith) in
    grind (arith, ints)

-- ---- bits put together: where they are all 0, each number is 0
no-bits : (n : ℕ) → to_z w64 n ≡ pos 0 → n ≡ 0
no-bits n e = grind (arith, ints)

zero_of : (z : ℤ) → SFits w64 z → of_z w64 z ≡ 0 → z ≡ pos 0
zero_of z f e = sym (to_z-of_z w64 z f) ∙ ap (to_z w64) e

pub zeros-more : (xs : List ℤ) (j all : ℕ) → Fits w64 all → SFits w64 (get_or xs j (pos 0))
    → (to_z w64 all ≡ pos 0 → (k : ℕ) → k < j → get_or xs k (pos 0) ≡ pos 0)
    → to_z w64 (bit_or all (of_z w64 (get_or xs j (pos 0)))) ≡ pos 0 → (k : ℕ) → k < j + 1 → get_or xs k (pos 0) ≡ pos 0
zeros-more xs j all fits item before e =
    let none = or-none all (of_z w64 (get_or xs j (pos 0))) (no-bits _ e) in
    below_more _ _ (before (ap (to_z w64) none.0)) (zero_of _ item none.1)

-- ---- what the code has of the levels below, and of the next
pub added : {xs : List ℤ} {total : ℤ} {i : ℕ} {below : ℤ} → HalfInReach xs total → i < length xs → below ≡ up_to xs i
    → to_z w64 (of_z w64 (below +ℤ to_z w64 (of_z w64 (get_or xs i (pos 0))))) ≡ up_to xs (suc i)
added {xs} {total} {i} h inside e =
    let next = up_to-next xs i in
    let small = h.small (suc i) inside in
    let each = h.sums.each i inside in
    omega (arith, ints)
