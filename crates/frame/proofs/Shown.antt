-- What an accepted file's opened frame shows: each plane and the table as exactly that part of the bytes, whose numbers are the plan's.
-- Assumes nothing.
use mathlib.Core.Path.{◌≡◌, refl, sym, ap, ◌∙◌}
use mathlib.Core.Bool.{false}
use mathlib.Core.List.{List, []}
use Prim.Native.Nat.{ℕ, ◌+◌, ◌-◌, ◌*◌, ◌≤◌, ◌<◌}
use native.Mathlib.Nat.{add_assoc}
use native.Mathlib.Omega.{arith}
use lib.ListN.{length, get_or, take, drop, length-drop}
use lib.Seq.{get_or-take, get_or-drop, length-take-le}
use borrow.Author.Tests.{eq-eqb, le-ltb}
use Rattle.spec.specs.Bytes.{be16}
use Rattle.spec.specs.Refusal.{accepted}
use Rattle.spec.specs.Frame.{trailer_at, trailer_of, plan_of, part, plane, own_weights, value_part, guide_part, table_part}
use Rattle.spec.specs.Checks.{verdict}
use Rattle.spec.proofs.Checks.{Near, passed}
use Rattle.frame.specs.declared.open.Plane.{Plane}
use Rattle.frame.specs.declared.open.Plane.TheVariants.{Values, Guides, Table}
use Rattle.frame.specs.Open.{no_part, shown, shown_from, opened, distance_of, length_of, plane_of, part_of, size_of, start_of}
use Rattle.spec.specs.declared.Trailer.{Trailer}

-- so far back from the trailer
abbrev back_of : Plane → List ℕ → ℕ
back_of which b = distance_of which (trailer_of b)

part-is : (which : Plane) (b : List ℕ) → part_of which b ≡ part b (back_of which b) (2 * size_of which b)
unfolding value_part guide_part table_part
part-is Values b = refl
part-is Guides b = refl
part-is Table b = refl

start_is : (which : Plane) (b : List ℕ) → start_of which b ≡ trailer_at b - back_of which b
unfolding plan_of
start_is Values b = refl
start_is Guides b = refl
start_is Table b = refl

length_is : (which : Plane) (b : List ℕ) → length_of which (trailer_of b) ≡ 2 * size_of which b
unfolding trailer_of
length_is Values b = refl
length_is Guides b = refl
length_is Table b = refl

inside : (which : Plane) (b : List ℕ) → Near (trailer_at b) (trailer_of b) → (2 * size_of which b ≤ back_of which b) × (back_of which b ≤ trailer_at b)
unfolding trailer_of
inside Values b n = (n.value-long, n.value_in)
inside Guides b n = (n.guide-long, n.guide-in)
inside Table b n = (n.table-long, n.table-in)

no_gap : (b : List ℕ) (back n : ℕ) → 28 ≤ length b → back ≤ trailer_at b → n ≤ back → no_part b back n ≡ false
unfolding no_part
no_gap b back n h i j = simp (le-ltb _ _ h, le-ltb _ _ i, le-ltb _ _ j)

shows-part : (b : List ℕ) (back n : ℕ) → 28 ≤ length b → back ≤ trailer_at b → n ≤ back → shown b back n ≡ part b back n
unfolding shown
shows-part b back n h i j = simp (no_gap b back n h i j)

starts-part : (b : List ℕ) (back n : ℕ) → 28 ≤ length b → back ≤ trailer_at b → n ≤ back → shown_from b back n ≡ trailer_at b - back
unfolding shown_from
starts-part b back n h i j = simp (no_gap b back n h i j)

part-long : (b : List ℕ) (back n : ℕ) → 28 ≤ length b → back ≤ trailer_at b → n ≤ back → length (part b back n) ≡ n
unfolding trailer_at
part-long b back n h i j = length-take-le n (drop (length b - 28 - back) b) (simp length-drop (omega arith))

part-number : (b : List ℕ) (at n j : ℕ) → 2 * j + 1 < n → be16 (take n (drop at b)) (2 * j) ≡ be16 b (at + 2 * j)
unfolding be16
part-number b at n j h =
    let x : get_or (take n (drop at b)) (2 * j) 0 ≡ get_or b (at + 2 * j) 0 =
    get_or-take n (drop at b) (2 * j) 0 (omega arith) ∙ get_or-drop at b (2 * j) 0 in
    let y : get_or (take n (drop at b)) (2 * j + 1) 0 ≡ get_or b (at + 2 * j + 1) 0
    = get_or-take n (drop at b) (2 * j + 1) 0 h ∙ get_or-drop at b (2 * j + 1) 0 ∙ ap (λ (i : ℕ). get_or b i 0) (sym (add_assoc at (2 * j) 1)) in
    omega arith

module _ (which : Plane) (b : List ℕ) (e : verdict b ≡ accepted) where
  pub opens : opened b ≡ trailer_of b
  unfolding opened
  opens = simp e

  -- what `bytes` and `plane_of` give is the part
  pub shows : plane_of which b (opened b) ≡ part_of which b
  unfolding plane_of
  shows =
      let s = passed b e in
      let i = inside which b s.near in
      ap (plane_of which b) opens ∙ ap (shown b (back_of which b)) (length_is which b) ∙ shows-part b _ _ s.long i.1 i.0 ∙ sym
      (part-is which b)

  -- and begins where the plan has it
  pub starts : shown_from b (distance_of which (opened b)) (length_of which (opened b)) ≡ start_of which b
  starts =
      let s = passed b e in
      let i = inside which b s.near in
      ap (λ (t : Trailer). shown_from b (distance_of which t) (length_of which t)) opens ∙ ap (shown_from b (back_of which b)) (length_is which b)
      ∙ starts-part b _ _ s.long i.1 i.0 ∙ sym (start_is which b)

  pub shows-long : length (part_of which b) ≡ 2 * size_of which b
  shows-long =
      let s = passed b e in
      let i = inside which b s.near in
      ap length (part-is which b) ∙ part-long b _ _ s.long i.1 i.0

  -- its number j is the plan's
  pub shows-number : (j : ℕ) → j < size_of which b → be16 (part_of which b) (2 * j) ≡ plane b (start_of which b) j
  shows-number j h =
      ap (λ (l : List ℕ). be16 l (2 * j)) (part-is which b) ∙ part-number b (trailer_at b - back_of which b) (2 * size_of which b) j (omega arith)
      ∙ ap (λ (n : ℕ). be16 b (n + 2 * j)) (sym (start_is which b))

-- the table is empty for distance 0
pub no_table : (b : List ℕ) → (trailer_of b).table ≡ 0 → table_part b ≡ []
unfolding table_part own_weights
no_table b e = simp (eq-eqb (trailer_of b).table 0 e)
