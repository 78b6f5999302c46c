-- Demand 2's round trip: reading what was written gives the settings, the planes and the table back, and the file is accepted. Assumes nothing.
use mathlib.Core.Path.{◌≡◌, refl, sym, ap, ◌∙◌}
use mathlib.Core.Bool.{Bool, true, false, not, ◌&&◌, ◌||◌}
use mathlib.Core.List.{List, [], ◌∷◌, ◌++◌, append_assoc}
use Prim.Native.Nat.{ℕ, zero, suc, ◌+◌, ◌-◌, ◌*◌, ◌/◌, ◌%◌, ◌≤◌, ◌<◌}
use native.Mathlib.Nat.{add-zero, add_assoc, div-add-mod', not-suc-le-zero, le_of_suc-le-suc}
use native.Mathlib.Omega.{arith}
use lib.Arith.{digits_lt}
use lib.Dec.{eqb}
use lib.ListN.{length, get_or, take, drop, length-append}
use lib.Seq.{get_or-append-add, take_at, drop_at}
use borrow.Author.Tests.{eqb-true, eqb-false, eq-eqb, ne_eqb, le-ltb}
use Rattle.spec.specs.declared.Settings.{Settings}
use Rattle.spec.specs.declared.Trailer.{Trailer}
use Rattle.spec.specs.declared.Plan.{Plan}
use Rattle.std.specs.Prelude.{if◌then◌else◌}
use Rattle.spec.specs.Bytes.{be16, be32, to16, to32, all16}
use Rattle.spec.specs.Refusal.{accepted, ◌▷◌, refuse}
use Rattle.spec.specs.Frame.{
  pixels,
  table_size,
  table,
  built_in,
  plane,
  trailer_at,
  settings_of,
  trailer_of,
  own_weights,
  plan_of,
  frame_of,
  value_part,
  guide_part,
  table_part,
  pixel_level,
  pixel_guide,
}
use Rattle.spec.specs.Checks.{
  outside,
  bad_mark,
  settings_outcome,
  bad_distance,
  judged,
  scan_file,
  value_scan,
  guide_scan,
  contents,
  trailer_outcome,
  verdict,
}
use Rattle.spec.specs.Writer.{field_bytes, distance_bytes, written, scan_list, writer_outcome}
use Rattle.spec.proofs.Checks.{scan-none, scan-accepted}
use Rattle.spec.proofs.Outcomes.{past}
use Rattle.frame_write.specs.Write.{Returned}
use Rattle.frame_bytes.proofs.Stores.{length-all16}
use Rattle.frame_write_trailer.proofs.TrailerLaws.{fields-long, distances-long}
use Rattle.frame_write.proofs.Writing.{passes, Lengths, lengths}

-- ---- numbers behind a prefix, and in a list of numbers
be16-behind : (p q : List ℕ) (i : ℕ) → be16 (p ++ q) (length p + i) ≡ be16 q i
unfolding be16
be16-behind p q i =
    let a = get_or-append-add p q i 0 in
    let b : get_or (p ++ q) (length p + i + 1) 0 ≡ get_or q (i + 1) 0 =
    ap (λ (n : ℕ). get_or (p ++ q) n 0) (add_assoc (length p) i 1) ∙ get_or-append-add p q (i + 1) 0 in
    omega arith

be32-behind : (p q : List ℕ) (i : ℕ) → be32 (p ++ q) (length p + i) ≡ be32 q i
unfolding be32
be32-behind p q i =
    let a = be16-behind p q i in
    let b : be16 (p ++ q) (length p + i + 2) ≡ be16 q (i + 2) = ap (be16 (p ++ q)) (add_assoc (length p) i 2) ∙ be16-behind p q (i + 2) in
    omega arith

two-more : (x y : ℕ) (l : List ℕ) (m : ℕ) → be16 (x ∷ y ∷ l) (suc (suc m)) ≡ be16 l m
unfolding be16
two-more x y l m =
    let e : suc (suc m) + 1 ≡ suc (suc (m + 1)) = omega arith in
    ap (λ (n : ℕ). get_or l m 0 * 256 + get_or (x ∷ y ∷ l) n 0) e

be16-all16 : (l r : List ℕ) (j : ℕ) → j < length l → be16 (all16 l ++ r) (2 * j) ≡ get_or l j 0
unfolding all16 to16 be16
be16-all16 [] r j h = absurd (not-suc-le-zero h)
be16-all16 (n ∷ l) r zero h = div-add-mod' n 256
be16-all16 (n ∷ l) r (suc j) h =
    let e : 2 * suc j ≡ suc (suc (2 * j)) = omega arith in
    ap (be16 (all16 (n ∷ l) ++ r)) e ∙ two-more (n / 256) (n % 256) (all16 l ++ r) (2 * j) ∙ be16-all16 l r j (le_of_suc-le-suc h)

-- ---- a list of numbers that stands somewhere in a file: its part, its numbers, its scan
pub record Stands (b : List ℕ) (start : ℕ) (l : List ℕ) : Type 0 where
  pub front : List ℕ
  pub behind : List ℕ
  pub place : length front ≡ start
  pub whole : b ≡ front ++ (all16 l ++ behind)

module _ {b : List ℕ} {start : ℕ} {l : List ℕ} (s : Stands b start l) where
  stands-part : (n : ℕ) → n ≡ length l → take (2 * n) (drop start b) ≡ all16 l
  stands-part n e =
      ap (λ (c : List ℕ). take (2 * n) (drop start c)) s.whole ∙ ap (take (2 * n)) (drop_at s.front (all16 l ++ s.behind) start s.place)
      ∙ take_at (all16 l) s.behind (2 * n) (length-all16 l ∙ ap (λ (m : ℕ). 2 * m) (sym e))

  stands-number : (j : ℕ) → j < length l → plane b start j ≡ get_or l j 0
  stands-number j h =
      ap (λ (c : List ℕ). be16 c (start + 2 * j)) s.whole ∙ ap (λ (m : ℕ). be16 (s.front ++ (all16 l ++ s.behind)) (m + 2 * j)) (sym s.place)
      ∙ be16-behind s.front (all16 l ++ s.behind) (2 * j) ∙ be16-all16 l s.behind j h

  stands-scan : (values : Bool) (n limit o : ℕ) → n ≡ length l → scan_list l values limit o ≡ accepted → scan_file b values start n limit ≡ accepted
  unfolding scan_file scan_list
  stands-scan values n limit o e ok =
      sym
      (scan-none (λ j. judged values (plane b start j)) n limit start
      (λ j h. rw (stands-number j (omega arith)) (scan-accepted (λ i. judged values (get_or l i 0)) (length l) limit o ok j (omega arith))))

-- ---- the trailer that was written
whole32 : (x : ℕ) → (x / 65536 / 256 * 256 + x / 65536 % 256) * 65536 + (x % 65536 / 256 * 256 + x % 65536 % 256) ≡ x
whole32 x = omega (arith, div-add-mod' (x / 65536) 256, div-add-mod' (x % 65536) 256, div-add-mod' x 65536)

module _ (k : Settings) (n p : ℕ) where
  abbrev trailer_bytes : List ℕ
  trailer_bytes = field_bytes k ++ distance_bytes n p

  trailer-long : length trailer_bytes ≡ 28
  trailer-long = simp length-append (omega (arith, fields-long k, distances-long n p))

  settings-in : record {
    width = be16 trailer_bytes 0;
    height = be16 trailer_bytes 2;
    levels = be16 trailer_bytes 4;
    guides = be16 trailer_bytes 6;
    kind = get_or trailer_bytes 8 0;
    radius = get_or trailer_bytes 9 0;
    smoothing = be16 trailer_bytes 10;
  } ≡ k
  unfolding field_bytes distance_bytes to32 to16 be16
  settings-in = λ i. record {
    width = div-add-mod' k.width 256 i;
    height = div-add-mod' k.height 256 i;
    levels = div-add-mod' k.levels 256 i;
    guides = div-add-mod' k.guides 256 i;
    kind = k.kind;
    radius = k.radius;
    smoothing = div-add-mod' k.smoothing 256 i;
  }

  value_in : be32 trailer_bytes 12 ≡ 2 * n + 4 * p
  unfolding field_bytes distance_bytes to32 to16 be16 be32
  value_in = whole32 (2 * n + 4 * p)

  guide-in : be32 trailer_bytes 16 ≡ 2 * n + 2 * p
  unfolding field_bytes distance_bytes to32 to16 be16 be32
  guide-in = whole32 (2 * n + 2 * p)

  table-in : be32 trailer_bytes 20 ≡ 2 * n
  unfolding field_bytes distance_bytes to32 to16 be16 be32
  table-in = whole32 (2 * n)

  mark-in : be32 trailer_bytes 24 ≡ 0x49434531
  unfolding field_bytes distance_bytes to32 to16 be16 be32
  mark-in = refl

-- ---- the file that was written, as its planes and its trailer
module _ (k : Settings) (v g a : List ℕ) where
  abbrev file : List ℕ
  file = written k v g a

  abbrev body : List ℕ
  body = all16 v ++ all16 g ++ all16 a

  abbrev tail : List ℕ
  tail = trailer_bytes k (length a) (pixels k)

  split : file ≡ body ++ tail
  unfolding written
  split = append_assoc body (field_bytes k) (distance_bytes (length a) (pixels k))

  file-long : length file ≡ length body + 28
  file-long = ap length split ∙ length-append body tail ∙ ap (λ (n : ℕ). length body + n) (trailer-long k (length a) (pixels k))

  trailer-at : trailer_at file ≡ length body
  unfolding trailer_at
  trailer-at = omega (arith, file-long)

  16-at : (i : ℕ) → be16 file (trailer_at file + i) ≡ be16 tail i
  16-at i = rw trailer-at (ap (λ (b : List ℕ). be16 b (length body + i)) split ∙ be16-behind body tail i)

  32-at : (i : ℕ) → be32 file (trailer_at file + i) ≡ be32 tail i
  32-at i = rw trailer-at (ap (λ (b : List ℕ). be32 b (length body + i)) split ∙ be32-behind body tail i)

  8-at : (i : ℕ) → get_or file (trailer_at file + i) 0 ≡ get_or tail i 0
  8-at i = rw trailer-at (ap (λ (b : List ℕ). get_or b (length body + i) 0) split ∙ get_or-append-add body tail i 0)

  first-at : be16 file (trailer_at file) ≡ be16 tail 0
  first-at = ap (be16 file) (sym (add-zero (trailer_at file))) ∙ 16-at 0

  settings-back : settings_of file ≡ k
  unfolding settings_of
  settings-back =
      (λ i. record {
        width = first-at i;
        height = 16-at 2 i;
        levels = 16-at 4 i;
        guides = 16-at 6 i;
        kind = 8-at 8 i;
        radius = 8-at 9 i;
        smoothing =
            16-at 10 i;
      })
      ∙ settings-in k (length a) (pixels k)

  abbrev trailer : Trailer
  trailer = record { settings = k; value = 2 * length a + 4 * pixels k; guide = 2 * length a + 2 * pixels k; table = 2 * length a }

  trailer-back : trailer_of file ≡ trailer
  unfolding trailer_of
  trailer-back = λ i. record {
    settings = settings-back i;
    value = (32-at 12 ∙ value_in k (length a) (pixels k)) i;
    guide = (32-at 16 ∙ guide-in k (length a) (pixels k)) i;
    table = (32-at 20 ∙ table-in k (length a) (pixels k)) i;
  }

  unmarked : bad_mark file ≡ false
  unfolding bad_mark
  unmarked =
      let h : 28 ≤ length file = omega (arith, file-long) in
      let m : be32 file (trailer_at file + 24) ≡ 0x49434531 = 32-at 24 ∙ mark-in k (length a) (pixels k) in
      simp (le-ltb _ _ h, m)

  module _ (p : Lengths k (length v) (length g) (length a)) where
    value-long : length (all16 v) ≡ 2 * pixels k
    value-long = omega (arith, length-all16 v, p.values)

    planes-long : length (all16 v ++ all16 g) ≡ 4 * pixels k
    planes-long = simp length-append (omega (arith, value-long, length-all16 g, p.guides))

    place : trailer_at file ≡ 4 * pixels k + 2 * length a
    place = trailer-at ∙ simp length-append (omega (arith, value-long, length-all16 g, length-all16 a, p.guides))

    -- where the planes and the table stand
    apart : file ≡ (all16 v ++ all16 g) ++ (all16 a ++ tail)
    apart = split ∙ append_assoc (all16 v ++ all16 g) (all16 a) tail

    apart3 : file ≡ all16 v ++ (all16 g ++ (all16 a ++ tail))
    apart3 = apart ∙ append_assoc (all16 v) (all16 g) (all16 a ++ tail)

    values-stand : Stands file 0 v
    values-stand = record { front = []; behind = all16 g ++ (all16 a ++ tail); place = refl; whole = apart3 }

    guides-stand : Stands file (2 * pixels k) g
    guides-stand = record { front = all16 v; behind = all16 a ++ tail; place = value-long; whole = apart3 }

    table-stands : Stands file (4 * pixels k) a
    table-stands = record { front = all16 v ++ all16 g; behind = tail; place = planes-long; whole = apart }

    -- the number of weights
    zero-twice : (x : Bool) → eqb (2 * length a) 0 ≡ x → eqb (length a) 0 ≡ x
    zero-twice true e = let z : 2 * length a ≡ 0 = eqb-true _ _ e in eq-eqb (length a) 0 (omega arith)
    zero-twice false e = ne_eqb (length a) 0 (λ z. eqb-false (2 * length a) 0 e (omega arith))

    counted : (x : Bool) → eqb (2 * length a) 0 ≡ x → own_weights trailer ≡ length a
    unfolding own_weights
    counted true e = let z : 2 * length a ≡ 0 = eqb-true _ _ e in simp e (omega arith)
    counted false e = simp e (sym (p.table (zero-twice false e)).1)

    abbrev plan : Plan
    plan =
        record {
          width = k.width;
          height = k.height;
          levels = k.levels;
          guides = k.guides;
          kind = k.kind;
          radius = k.radius;
          smoothing = k.smoothing;
          value = 0;
          guide = 2 * pixels k;
          table = 4 * pixels k;
          weights = length a;
        }

    value-start : trailer_at file - (trailer_of file).value ≡ 0
    value-start = ap (λ (t : Trailer). trailer_at file - t.value) trailer-back ∙ omega (arith, place)

    guide-start : trailer_at file - (trailer_of file).guide ≡ 2 * pixels k
    guide-start = ap (λ (t : Trailer). trailer_at file - t.guide) trailer-back ∙ omega (arith, place)

    table-start : trailer_at file - (trailer_of file).table ≡ 4 * pixels k
    table-start = ap (λ (t : Trailer). trailer_at file - t.table) trailer-back ∙ omega (arith, place)

    weights-back : own_weights (trailer_of file) ≡ length a
    weights-back = ap own_weights trailer-back ∙ counted _ refl

    plan-back : plan_of file ≡ plan
    unfolding plan_of
    plan-back = λ i. record {
      width = (settings-back i).width;
      height = (settings-back i).height;
      levels = (settings-back i).levels;
      guides = (settings-back i).guides;
      kind = (settings-back i).kind;
      radius = (settings-back i).radius;
      smoothing = (settings-back i).smoothing;
      value = value-start i;
      guide = guide-start i;
      table = table-start i;
      weights = weights-back i;
    }

    -- the parts come back
    part-back : {start n : ℕ} {l : List ℕ} (at m : ℕ) → Stands file start l → at ≡ start → m ≡ n → n ≡ length l →
        take (2 * m) (drop at file) ≡ all16 l
    part-back {start} {n} at m s ea em en = stands-part (rw (sym ea) at s) m (em ∙ en)

    values-back : value_part file ≡ all16 v
    unfolding value_part
    values-back = part-back _ _ values-stand value-start (ap pixels settings-back) (sym p.values)

    guides-back : guide_part file ≡ all16 g
    unfolding guide_part
    guides-back = part-back _ _ guides-stand guide-start (ap pixels settings-back) (sym p.guides)

    table-back : table_part file ≡ all16 a
    unfolding table_part
    table-back = part-back _ _ table-stands table-start weights-back refl

    -- and the numbers
    levels-back : (j : ℕ) → j < pixels k → pixel_level file j ≡ get_or v j 0
    unfolding pixel_level
    levels-back j h = ap (λ (z : Plan). plane file z.value j) plan-back ∙ stands-number values-stand j (omega (arith, p.values))

    guide-back : (j : ℕ) → j < pixels k → pixel_guide file j ≡ get_or g j 0
    unfolding pixel_guide
    guide-back j h = ap (λ (z : Plan). plane file z.guide j) plan-back ∙ stands-number guides-stand j (omega (arith, p.guides))

    weigh : Bool → ℕ → ℕ → ℕ → ℕ → ℕ
    weigh empty start m f e = if empty then built_in f e else plane file start (f * m + e)

    weights-cases : (f e : ℕ) → f < k.guides → e < k.guides → (x : Bool) → eqb (2 * length a) 0 ≡ x
        → weigh x (4 * pixels k) k.guides f e ≡ (if x then built_in f e else get_or a (f * k.guides + e) 0)
    unfolding weigh
    weights-cases f e hf he true ex = refl
    weights-cases f e hf he false ex =
        let n : length a ≡ k.guides * k.guides = (p.table (zero-twice false ex)).1 in
        stands-number table-stands (f * k.guides + e) (rw n (digits_lt hf he))

    weights-read : (f e : ℕ) → f < k.guides → e < k.guides →
        table (frame_of file) f e ≡ (if eqb (length a) 0 then built_in f e else get_or a (f * k.guides + e) 0)
    unfolding frame_of weigh
    weights-read f e hf he =
        ap (λ (t : Trailer). weigh (eqb t.table 0) (plan_of file).table (settings_of file).guides f e) trailer-back
        ∙ ap (λ (z : Plan). weigh (eqb (2 * length a) 0) z.table (settings_of file).guides f e) plan-back
        ∙ ap (λ (s : Settings). weigh (eqb (2 * length a) 0) (4 * pixels k) s.guides f e) settings-back
        ∙ weights-cases f e hf he _ refl ∙ ap (λ (x : Bool). if x then built_in f e else get_or a (f * k.guides + e) 0) (sym (zero-twice _ refl))

    -- ---- the checks pass
    near : (x : Bool) → eqb (2 * length a) 0 ≡ x → bad_distance (4 * pixels k + 2 * length a) trailer ≡ false
    unfolding bad_distance
    near x e =
        let v1 : 2 * pixels k ≤ 2 * length a + 4 * pixels k = omega arith in
        let v2 : 2 * length a + 4 * pixels k ≤ 4 * pixels k + 2 * length a = omega arith in
        let g1 : 2 * pixels k ≤ 2 * length a + 2 * pixels k = omega arith in
        let g2 : 2 * length a + 2 * pixels k ≤ 4 * pixels k + 2 * length a = omega arith in
        simp (le-ltb _ _ v1, le-ltb _ _ v2, le-ltb _ _ g1, le-ltb _ _ g2) (last x e)
      where
        last : (x : Bool) → eqb (2 * length a) 0 ≡ x
            → (not (eqb (2 * length a) 0) && (outside (2 * table_size k) (4 * pixels k + 2 * length a) (2 * length a) || eqb k.kind 2)) ≡ false
        last true e = simp e
        last false e =
            let s = p.table (zero-twice false e) in
            let a1 : 2 * table_size k ≤ 2 * length a = omega (arith, s.1) in
            let a2 : 2 * length a ≤ 4 * pixels k + 2 * length a = omega arith in
            let k1 : eqb k.kind 2 ≡ false = ap (λ (n : ℕ). eqb n 2) s.0 in
            simp (e, le-ltb _ _ a1, le-ltb _ _ a2, k1)

    placed : bad_distance (trailer_at file) (trailer_of file) ≡ false
    placed = ap (λ (n : ℕ). bad_distance n (trailer_of file)) place ∙ ap (bad_distance (4 * pixels k + 2 * length a)) trailer-back ∙ near _ refl

    trailer-passes : settings_outcome k ≡ accepted → trailer_outcome file ≡ accepted
    unfolding trailer_outcome
    trailer-passes ok =
        sym
        (past (refuse 1 (bad_mark file)) (settings_outcome (settings_of file) ▷ refuse 6 (bad_distance (trailer_at file) (trailer_of file)))
        (ap (refuse 1) unmarked)
        (past (settings_outcome (settings_of file)) (refuse 6 (bad_distance (trailer_at file) (trailer_of file))) (ap settings_outcome settings-back ∙ ok)
        (sym (ap (refuse 6) placed))))

    contents-pass : scan_list v true k.levels 0 ≡ accepted → scan_list g false k.guides (2 * pixels k) ≡ accepted → contents file plan ≡ accepted
    unfolding contents value_scan guide_scan
    contents-pass sv sg =
        let xv : value_scan file plan ≡ accepted = stands-scan values-stand true (pixels k) k.levels 0 (sym p.values) sv in
        let xg : guide_scan file plan ≡ accepted = stands-scan guides-stand false (pixels k) k.guides (2 * pixels k) (sym p.guides) sg in
        sym (past (value_scan file plan) (guide_scan file plan) xv (sym xg))

-- ---- the theorem
pub round_trip : (k : Settings) (v g a : List ℕ) (room : ℕ) → writer_outcome k v g a room ≡ accepted → Returned k v g a (written k v g a)
unfolding verdict
round_trip k v g a room e =
    let q = passes k v g a room e in
    let p = lengths k (length v) (length g) (length a) q.lengths in
    let b : List ℕ = written k v g a in
    record {
      accepts =
          sym (past (trailer_outcome b) (contents b (plan_of b)) (trailer-passes k v g a p q.settings)
          (sym (ap (contents b) (plan-back k v g a p) ∙ contents-pass k v g a p q.values q.guides)));
      settings = settings-back k v g a;
      values = values-back k v g a p;
      guides = guides-back k v g a p;
      level_at = levels-back k v g a p;
      guide-at = guide-back k v g a p;
      weight-at = weights-read k v g a p;
      table = table-back k v g a p;
    }
