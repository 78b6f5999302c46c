-- The text of an accepted frame: its parts in their order, and that it fits the buffer.
-- Assumes nothing.
use Prim.Native.Nat.{ℕ, ◌+◌, ◌*◌, ◌≤◌, ◌<◌}
use mathlib.Core.Path.{◌≡◌, refl, sym, ap, ◌∙◌}
use mathlib.Core.Bool.{Bool, true, false}
use mathlib.Core.Logic.{⊎_elim}
use mathlib.Core.List.{List, [], ◌∷◌, ◌++◌, append_assoc}
use native.Mathlib.Nat.{mul_comm}
use native.Mathlib.Omega.{arith}
use lib.Dec.{eqb}
use lib.ListN.{length, length-append}
use borrow.Author.Tests.{eq-eqb, ne_eqb, eqb-true, eqb-false}
use Rattle.spec.specs.declared.Plan.{Plan}
use Rattle.spec.specs.declared.Way.{Way}
use Rattle.spec.specs.declared.Way.TheVariants.{Joint, Coarse}
use Rattle.std.specs.Prelude.{if◌then◌else◌}
use Rattle.spec.specs.declared.Refusal.{Refusal}
use Rattle.spec.specs.Refusal.{Outcome, accepted, refused, number, offset_of, values_of}
use Rattle.spec.specs.Frame.{frame_of, trailer_at, trailer_of, pixels}
use Rattle.spec.specs.Checks.{Planned}
use Rattle.spec.specs.Median.{answer}
use Rattle.spec.specs.Walk.{by_blocks}
use Rattle.spec.specs.Filter.{serpentine, filtered, filter_end}
use Rattle.spec.specs.Calls.{way_of}
use Rattle.spec.specs.Program.{rows, ways, joint_word, columns_word, chain_word, coarse_word, program_outcome, output_text, printed}
use Rattle.spec.proofs.Checks.{passed}
use Rattle.spec.proofs.Totals.{answer-low}
use Rattle.spec.proofs.Plans.{facts}
use Rattle.spec.proofs.Walks.{walk_same}
use Rattle.text.specs.Text.{TextRoom, plane_text, size_text, way_text, refusal_text}
use Rattle.text.proofs.Putting.{room-first}
use Rattle.text.proofs.Rows.{plane-rows}
use Rattle.text.proofs.Lengths.{rows_short, size-short, way-short, refusal-short}
use Rattle.program_checks.specs.Admitted.{Admitted}
use Rattle.program.specs.Answer.{longest, Filtered, guided_text}

-- ---- refusals
pub refused-text : (b : List ℕ) (n offset : ℕ) → refusal_text n offset ≡ output_text b (refused n (if eqb n 7 then offset ∷ [] else []))
unfolding refusal_text output_text
refused-text b n offset = refl

-- ---- the ways of kind 2
pub guided-none : (kind n : ℕ) → (kind ≡ 2 → ⊥) → guided_text kind n ≡ []
unfolding guided_text
guided-none kind n h = rw (ne_eqb kind 2 h)

pub guided-both : (kind n : ℕ) → kind ≡ 2 → guided_text kind n ≡ way_text columns_word n ++ way_text chain_word n
unfolding guided_text
guided-both kind n h = rw (eq-eqb kind 2 h)

guided-short : (kind n : ℕ) → length (guided_text kind n) ≤ 56
guided-short kind n = by (eqb kind 2) refl
  where
    by : (b : Bool) → eqb kind 2 ≡ b → length (guided_text kind n) ≤ 56
    by true e =
        let z = ap length (guided-both kind n (eqb-true kind 2 e)) in
        let a = length-append (way_text columns_word n) (way_text chain_word n) in
        omega (arith, z, a, way-short columns_word n, way-short chain_word n)
    by false e = let z = ap length (guided-none kind n (eqb-false kind 2 e)) in omega (arith, z)

-- ---- the shift counts: one of ways 1 to 3, and one of way 4
abbrev pub shift_count : Way → List ℕ → ℕ
shift_count way b = (filter_end way (frame_of b)).shifts

pub by-levels : {b before after : List ℕ} {way n : ℕ} → Filtered b way before after n → by_blocks (way_of way) ≡ false →
    n ≡ shift_count Joint b
unfolding filter_end
by-levels {b} {before} {after} {way} h e = h.shifts ∙ walk_same (way_of way) Joint e (frame_of b) 0 0 (serpentine (frame_of b).set)

-- ---- the whole text
abbrev pub parts : List ℕ → ℕ → ℕ → ℕ → List ℕ
parts b width height kind =
    size_text width height ++ rows (frame_of b) height ++ way_text joint_word (shift_count Joint b) ++ guided_text kind (shift_count Joint b)
    ++ way_text coarse_word (shift_count Coarse b)

whole_of : (b : List ℕ) → output_text b accepted ≡ parts b (frame_of b).set.width (frame_of b).set.height (frame_of b).set.kind
unfolding output_text ways size_text way_text guided_text
whole_of b =
    let p = frame_of b in
    let picture = size_text p.set.width p.set.height ++ rows p p.set.height in
    let joint = way_text joint_word (shift_count Joint b) in
    let guided = guided_text p.set.kind (shift_count Joint b) in
    let coarse = way_text coarse_word (shift_count Coarse b) in
    sym (append_assoc picture (joint ++ guided) coarse) ∙ ap (λ (l : List ℕ). l ++ coarse) (sym (append_assoc picture joint guided))

module _ {b : List ℕ} {z : Plan} (a : Planned b z) where
  pub whole : output_text b accepted ≡ parts b z.width z.height z.kind
  whole = let f = facts a in rw (f.width, f.height, f.kind) (whole_of b)

  -- the rows of a plane that begins with the filtered one
  pub plane-text : {plane : List ℕ} (rest : List ℕ) → plane ≡ filtered (frame_of b) ++ rest →
      plane_text plane z.width z.height ≡ rows (frame_of b) z.height
  plane-text rest e =
      let f = facts a in
      let p = frame_of b in
      rw (e, f.width, f.height) (plane-rows p rest p.set.height f.limits.sound.width_low (omega arith))

-- ---- its length: the pixels stand before the trailer's 28 bytes
pixels-fewer : {b : List ℕ} {z : Plan} → Admitted b z → 2 * pixels (frame_of b).set + 28 ≤ 16384
unfolding frame_of trailer_at trailer_of
pixels-fewer {b} {z} a =
    let h = passed b a.planned.accepts in
    omega (arith, h.near.value-long, h.near.value_in, h.long, a.size)

pub text-short : {b : List ℕ} {z : Plan} → Admitted b z → length (output_text b accepted) ≤ longest
text-short {b} {z} a =
    let p = frame_of b in
    let k = p.set in
    let f = facts a.planned in
    let n = shift_count Joint b in
    let m = shift_count Coarse b in
    let low : (s t : ℕ) → s < k.width → t < k.height → answer p s t < 100000 =
    λ s t hs ht. ⊎_elim (λ h. omega (arith, h, f.limits.sound.levels_high)) (λ h. omega (arith, h))
    (answer-low (record { good = f.limits; in-column = hs; in-row = ht })) in
    let r : length (rows p k.height) ≤ 6 * (k.height * k.width) = rows_short p k.height f.limits.sound.width_low low in
    let c : k.height * k.width ≡ pixels k = mul_comm k.height k.width in
    let x = ap length (whole_of b) in
    let s1 = size_text k.width k.height in
    let s2 = rows p k.height in
    let s3 = way_text joint_word n in
    let s4 = guided_text k.kind n in
    let l0 = length-append (s1 ++ s2 ++ s3 ++ s4) (way_text coarse_word m) in
    let l1 = length-append (s1 ++ s2 ++ s3) s4 in
    let l2 = length-append (s1 ++ s2) s3 in
    let l3 = length-append s1 s2 in
    let w = way-short coarse_word m in
    omega (arith, x, l0, l1, l2, l3, r, c, pixels-fewer a, size-short k.width k.height, way-short joint_word n, guided-short k.kind n, w)

-- ---- what is printed fits too, refused or not
pub refusal-fits : (b : List ℕ) (r : Refusal) → refused (number r) (values_of r) ≡ program_outcome b → length (printed b) ≤ longest
unfolding printed
refusal-fits b r e =
    let h = ap length (refused-text b (number r) (offset_of r)) in rw (sym e) (omega (arith, h, refusal-short (number r) (offset_of r)))

pub printed-as : (b : List ℕ) {u : Outcome} → u ≡ program_outcome b → output_text b u ≡ printed b
unfolding printed
printed-as b e = ap (output_text b) e

-- ---- the parts of the text, and the room for the first ones of them
module _ {b : List ℕ} {z : Plan} (a : Admitted b z) (l : List ℕ) (h : longest ≤ length l) where
  abbrev size : List ℕ
  size = size_text z.width z.height

  abbrev lines : List ℕ
  lines = rows (frame_of b) z.height

  abbrev joint : List ℕ
  joint = way_text joint_word (shift_count Joint b)

  abbrev guided : List ℕ
  guided = guided_text z.kind (shift_count Joint b)

  abbrev coarse : List ℕ
  coarse = way_text coarse_word (shift_count Coarse b)

  pub room-all : TextRoom l 0 (parts b z.width z.height z.kind)
  room-all = omega (arith, text-short a, ap length (whole a.planned), h)

  pub room-four : TextRoom l 0 (size ++ lines ++ joint ++ guided)
  room-four = room-first l 0 (size ++ lines ++ joint ++ guided) coarse room-all

  pub room-three : TextRoom l 0 (size ++ lines ++ joint)
  room-three = room-first l 0 (size ++ lines ++ joint) guided room-four

  pub room-two : TextRoom l 0 (size ++ lines)
  room-two = room-first l 0 (size ++ lines) joint room-three

  pub room-one : TextRoom l 0 size
  room-one = room-first l 0 size lines room-two
