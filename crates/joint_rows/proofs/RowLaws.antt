-- Laws of the rows of weights: the table's row of the centre's guide, built-in or the file's own.
-- Assumes nothing.
use mathlib.Core.Path.{◌≡◌, sym, ap, ◌∙◌}
use mathlib.Core.Bool.{false}
use mathlib.Core.List.{List, ◌++◌}
use mir.Syntax.{w16}
use Rattle.std.specs.Int.{swap_bytes}
use Prim.Native.Nat.{ℕ, ◌+◌, ◌-◌, ◌*◌, ◌/◌, ◌%◌, ◌≤◌, ◌<◌}
use native.Mathlib.Nat.{le-div_iff_mul-le}
use native.Mathlib.Omega.{arith}
use lib.ListN.{length, get_or, take, drop}
use Rattle.std.proofs.lemmas.List.{get_or_append_left, length-take-le, length-append}
use lib.IntN.{pos}
use Rattle.spec.specs.declared.Plan.{Plan}
use Rattle.spec.specs.Base.{distance}
use Rattle.spec.specs.Bytes.{AllBytes, be16}
use Rattle.spec.specs.Frame.{Frame, guide, table, heaviest, plane, pixel_guide, built_in, frame_of, frame_with}
use Rattle.spec.specs.Checks.{Pictured}
use Rattle.spec.specs.Weight.{weightless}
use Rattle.spec.proofs.Lists.{part-long, part-cell}
use Rattle.spec.proofs.Limits.{built-in-low, be16-low}
use Rattle.spec.proofs.Plans.{facts, pixel-of, place-low, table-own, table-built}
use Rattle.spec.proofs.Own.{own-table, table-weighs}
use Rattle.window.proofs.PixelLaws.{guides-range}
use Rattle.joint_search.specs.Window.{RowOwn, RowWeighs}
use Rattle.joint_search.proofs.WindowLaws.{own-weighs}
use Rattle.big_endian_part.specs.Part.{Made, exchanged}
use Rattle.joint_rows.specs.Rows.{Mirror, TableRow}
use Rattle.joint_rows.proofs.TableLaws.{weight-place}

-- the mirrored constants, moved so that the centre's is at its guide
mirror-built : (f h : ℕ) → f ≤ 255 → built_in 255 (255 - f + h) ≡ built_in f h
unfolding built_in
mirror-built f h l = let e : distance 255 (255 - f + h) ≡ distance f h = omega arith in ap (λ (d : ℕ). 4096 / (16 + d)) e

-- the first 511 of a longer list
pub mirror-long : (out : List ℕ) → 511 ≤ length out → length (take 511 out) ≡ 511
mirror-long out h = length-take-le 511 out h

pub mirror-whole : (out row : List ℕ) (k : ℕ) → k ≡ 511 → 511 ≤ length out → Made (built_in 255) 0 k (take 511 out) row → Mirror (row ++ drop 511 out)
mirror-whole out row k e h r =
    let l : length row ≡ 511 = r.long ∙ mirror-long out h in
    record {
      long = omega (arith, length-append row (drop 511 out));
      is = λ g u. let inside : g < length row = omega arith in get_or_append_left row (drop 511 out) 0 g inside ∙ r.is g (omega arith) (omega arith);
    }

-- a number's two bytes exchanged
pub swapped : (v : ℕ) → v < 65536 → swap_bytes w16 v ≡ exchanged v
unfolding exchanged
swapped v h = let e : v / 256 % 256 ≡ v / 256 = omega arith in ap (λ (q : ℕ). v % 256 * 256 + q) e

-- the built-in weights are above 0
built-in-weighs : (f g : ℕ) → f ≤ 255 → g ≤ 255 → 0 < built_in f g
unfolding built_in
built-in-weighs f g hf hg = (le-div_iff_mul-le {k = 16 + distance f g} {x = 1} {y = 4096} (omega arith)).1 (omega arith)

module _ {b vs : List ℕ} {z : Plan} (pl : Pictured b vs z) {s t : ℕ} (hs : s < z.width) (ht : t < z.height) where
  pub centre-place : t * z.width + s < z.width * z.height
  centre-place = place-low z s t hs ht

  -- so that no window is hollow
  pub built-weighs : z.kind ≡ 1 → z.weights ≡ 0 → weightless (frame_with b vs) s t ≡ false
  built-weighs one none =
      let c = guide (frame_with b vs) s t in
      let k = pixel-of pl hs ht in
      let m = k.good.sound.guides_high in
      let low = k.good.guide-low s t k.in-column k.in-row in
      table-weighs (frame_with b vs) s t (sym (facts pl).kind ∙ one)
      (λ x y h. rw (table-built pl none c (guide (frame_with b vs) x y))
      (built-in-weighs c (guide (frame_with b vs) x y) (omega (arith, low, m)) (omega (arith, k.good.guide-low x y h.wide h.high, m))))

  module _ {f : ℕ} (ef : f ≡ pixel_guide b (t * z.width + s)) where
    pub centre-is : f ≡ guide (frame_with b vs) s t
    centre-is = ef ∙ (facts pl).guide-at s t

    in_frame : f < (frame_with b vs).set.guides
    in_frame = let k = pixel-of pl hs ht in rw centre-is (k.good.guide-low s t k.in-column k.in-row)

    pub centre-low : f < z.guides
    centre-low = rw (facts pl).guides in_frame

    pub centre-small : f ≤ 255
    centre-small = let k = pixel-of pl hs ht in omega (arith, in_frame, k.good.sound.guides_high)

    -- kind 1: a row of the table
    table-own-row : {row : List ℕ} → z.kind ≡ 1 → (frame_with b vs).set.guides ≤ length row →
        ((h : ℕ) → h < (frame_with b vs).set.guides → get_or row h 0 ≡ table (frame_with b vs) f h) →
        ((h : ℕ) → h < (frame_with b vs).set.guides → get_or row h 0 ≤ heaviest) → RowOwn (frame_with b vs) s t row
    table-own-row one inside value low = record {
      in-row = record { inside = inside; low = low };
      is =
          λ h l. own-table (frame_with b vs) s t h (sym (facts pl).kind ∙ one) ∙ ap (λ (q : ℕ). pos (table (frame_with b vs) q h)) (sym centre-is)
          ∙ ap pos
          (sym (value h l));
    }

    few : (frame_with b vs).set.guides ≤ 256
    few = (pixel-of pl hs ht).good.sound.guides_high

    -- the built-in weights, as they are lent: the 256 constants from the centre's place on
    pub mirror-weighs : {row : List ℕ} {from end : ℕ} → z.kind ≡ 1 → z.weights ≡ 0 → Mirror row → from ≡ 255 - f → end ≡ from + 256 →
        RowWeighs (frame_with b vs) s t (take (end - from) (drop from row))
    mirror-weighs {row} {from} {end} one none mi ef ee =
        let n : end - from ≡ 256 = omega arith in
        let inside = part-long row from (end - from) (omega (arith, mi.long, centre-small)) in
        let built : (h : ℕ) → h < (frame_with b vs).set.guides → get_or (take (end - from) (drop from row)) h 0 ≡ built_in f h =
        λ h l. part-cell row from (end - from) h (omega (arith, few)) ∙ mi.is (from + h)
        (omega (arith, few, centre-small)) ∙ ap (λ (q : ℕ). built_in 255 (q + h)) ef ∙ mirror-built f h centre-small in
        own-weighs (frame_with b vs) s t (built-weighs one none)
        (table-own-row {row = take (end - from) (drop from row)} one (omega (arith, inside, few)) (λ h l. built h l ∙ sym (table-built pl none f h))
        (λ h l. rw (built h l) (built-in-low f h)))

    -- a row of 256 numbers that are the table's: the file's own, or made weight by weight
    pub row-weighs-own : {row : List ℕ} → z.kind ≡ 1 → TableRow (frame_of b) z.guides f row → RowOwn (frame_with b vs) s t row
    row-weighs-own one r =
        table-own-row one (omega (arith, r.long, few)) (λ h l. r.is h (rw (facts pl).guides l)) (λ h l. r.low h (rw (facts pl).guides l))

-- the first k of 256 are those of the table, and none of them is too large: its row
pub row_made : {p : Frame} {rule : ℕ → ℕ} {m k f : ℕ} {xs row : List ℕ} → Made rule 0 k xs row → length xs ≡ 256 → m ≤ k →
    ((g : ℕ) → g < m → rule g ≡ table p f g) → ((g : ℕ) → g < m → rule g ≤ heaviest) → TableRow p m f row
row_made r e h same low = record {
  long = r.long ∙ e;
  is = λ g l. r.is g (omega arith) (omega arith) ∙ same g l;
  low = λ g l. rw (r.is g (omega arith) (omega arith)) (low g l);
}

-- ---- the file's own row
module _ {b vs : List ℕ} {z : Plan} (pl : Pictured b vs z) {f : ℕ} (hf : f < z.guides) (own : z.weights ≡ 0 → ⊥) where
  row-place : (g : ℕ) → z.table + 2 * (f * z.guides) + 2 * g ≡ z.table + 2 * (f * z.guides + g)
  row-place g = omega arith

  pub row_inside : z.table + 2 * (f * z.guides) + 2 * z.guides ≤ length b
  row_inside =
      let m : 1 ≤ z.guides = (guides-range pl).0 in
      let last = weight-place pl own f (z.guides - 1) hf (omega arith) in
      omega (arith, last.1, row-place (z.guides - 1))

  pub row-small : f * z.guides < 65536
  row-small = omega (arith, weight-place pl own f 0 hf (omega (arith, (guides-range pl).0)))

  pub row-own : {k : ℕ} {xs row : List ℕ} → AllBytes b → length xs ≡ 256 → z.guides ≤ k →
      Made (plane b (z.table + 2 * (f * z.guides))) 0 k xs row → TableRow (frame_of b) z.guides f row
  row-own bytes e h r = row_made r e h (λ g l. ap (be16 b) (row-place g) ∙ sym (table-own pl own f g)) (λ g l. be16-low b bytes _)
