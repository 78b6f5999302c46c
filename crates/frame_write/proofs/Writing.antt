-- Laws of the writer: its checks in their order, what an accepted writing has, and the file that is stored. Assumes nothing.
use mathlib.Core.Path.{◌≡◌, refl, sym, ap, ◌∙◌}
use mathlib.Core.Bool.{Bool, true, false, true≢false, not, ◌&&◌, ◌||◌}
use mathlib.Core.List.{List, ◌++◌, append_assoc}
use Prim.Native.Nat.{ℕ, ◌+◌, ◌*◌, ◌≤◌}
use native.Mathlib.Nat.{mul-le-mul, zero-add}
use native.Mathlib.Omega.{arith}
use lib.Dec.{ltb, eqb}
use lib.ListN.{length, drop, length-append}
use lib.Seq.{sets, sets-eq}
use borrow.Author.Tests.{ltb-false, eqb-true, not-false}
use Rattle.spec.specs.declared.Settings.{Settings}
use Rattle.spec.specs.Bytes.{all16}
use Rattle.spec.specs.Refusal.{Outcome, accepted, refused, ◌▷◌, refuse, fires}
use Rattle.spec.specs.Frame.{pixels, table_size}
use Rattle.spec.specs.Checks.{settings_outcome}
use Rattle.spec.specs.Writer.{field_bytes, distance_bytes, written, written_size, bad_length, scan_list, writer_outcome, stored}
use Rattle.spec.proofs.Checks.{not-refused, both-accepted, not-fired, neither, both}
use Rattle.spec.proofs.Limits.{settings-limits}
use Rattle.frame_write.specs.Write.{WritingFits}
use Rattle.frame_bytes.proofs.Stores.{placed, length-all16}
use Rattle.frame_write_trailer.proofs.TrailerLaws.{fields-long, distances-long}

-- ---- what an accepted writing has passed, check by check
pub record WritingPassed (k : Settings) (v g a : List ℕ) (room : ℕ) : Type 0 where
  pub settings : settings_outcome k ≡ accepted
  pub lengths : bad_length k (length v) (length g) (length a) ≡ false
  pub values : scan_list v true k.levels 0 ≡ accepted
  pub guides : scan_list g false k.guides (2 * pixels k) ≡ accepted
  pub space : ltb room (written_size k (length a)) ≡ false

pub passes : (k : Settings) (v g a : List ℕ) (room : ℕ) → writer_outcome k v g a room ≡ accepted → WritingPassed k v g a room
unfolding writer_outcome
passes k v g a room e =
    let l = refuse 6 (bad_length k (length v) (length g) (length a)) in
    let x = scan_list v true k.levels 0 in
    let y = scan_list g false k.guides (2 * pixels k) in
    let r = refuse 11 (ltb room (written_size k (length a))) in
    let e1 = both-accepted (settings_outcome k) (l ▷ x ▷ y ▷ r) e in
    let e2 = both-accepted l (x ▷ y ▷ r) e1.1 in
    let e3 = both-accepted x (y ▷ r) e2.1 in
    let e4 = both-accepted y r e3.1 in
    record {
      settings = e1.0;
      lengths = not-fired 6 _ e2.0;
      values = e3.0;
      guides = e4.0;
      space = not-fired 11 _ e4.1;
    }

-- the lengths that check 6 lets through: a table is empty, or of kind 1 and whole
pub record Lengths (k : Settings) (v g a : ℕ) : Type 0 where
  pub values : v ≡ pixels k
  pub guides : g ≡ pixels k
  pub table : eqb a 0 ≡ false → (k.kind ≡ 1) × (a ≡ table_size k)

table-shape : (k : Settings) (a : ℕ) → (not (eqb a 0) && not (eqb k.kind 1 && eqb a (table_size k))) ≡ false → eqb a 0 ≡ false →
    (k.kind ≡ 1) × (a ≡ table_size k)
table-shape k a e h =
    let s : not (eqb k.kind 1 && eqb a (table_size k)) ≡ false =
    ap (λ (b : Bool). not b && not (eqb k.kind 1 && eqb a (table_size k))) (sym h) ∙ e in
    let q = both _ _ (not-false _ s) in
    (eqb-true _ _ q.0, eqb-true _ _ q.1)

pub lengths : (k : Settings) (v g a : ℕ) → bad_length k v g a ≡ false → Lengths k v g a
unfolding bad_length
lengths k v g a bad =
    let bv = not (eqb v (pixels k)) in
    let bg = not (eqb g (pixels k)) in
    let ba = not (eqb a 0) && not (eqb k.kind 1 && eqb a (table_size k)) in
    let q = neither (bv || bg) ba bad in
    let planes = neither bv bg q.0 in
    record { values = eqb-true _ _ (not-false _ planes.0); guides = eqb-true _ _ (not-false _ planes.1); table = table-shape k a q.1 }

table-few : (k : Settings) (a : ℕ) (x : Bool) → eqb a 0 ≡ x → k.guides ≤ 256 → (x ≡ false → (k.kind ≡ 1) × (a ≡ table_size k)) → a ≤ 65536
table-few k a true e h s = let z : a ≡ 0 = eqb-true _ _ e in omega arith
table-few k a false e h s = rw (s refl).1 (mul-le-mul {n₂ = 256} h h)

pub fit : (k : Settings) (v g a : List ℕ) (room : ℕ) → writer_outcome k v g a room ≡ accepted → WritingFits k v g a room
fit k v g a room e =
    let p = passes k v g a room e in
    let ok = settings-limits k p.settings in
    let l = lengths k (length v) (length g) (length a) p.lengths in
    record {
      few = ok.pixels_high;
      values = l.values;
      guides = l.guides;
      table = table-few k (length a) _ refl ok.guides_high l.table;
      space = ltb-false _ _ p.space;
    }

-- ---- the file, in its four pieces
pub file-stored : (l : List ℕ) (k : Settings) (v g a : List ℕ) {guide-at table_at trailer-at : ℕ} {o1 o2 o3 o4 : List ℕ}
    → length v ≡ pixels k → length g ≡ pixels k
    → o1 ≡ sets l 0 (all16 v) → o2 ≡ sets o1 guide-at (all16 g) → o3 ≡ sets o2 table_at (all16 a)
    → o4 ≡ sets o3 trailer-at (field_bytes k ++ distance_bytes (length a) (length v))
    → guide-at ≡ 2 * length v → table_at ≡ 4 * length v → trailer-at ≡ 4 * length v + 2 * length a → o4 ≡ sets l 0 (written k v g a)
unfolding written
file-stored l k v g a hv hg e1 e2 e3 e4 h2 h3 h4 =
    let lv = length-all16 v in
    let lg = length-all16 g in
    let la = length-all16 a in
    let planes : List ℕ = all16 v ++ all16 g in
    let t : List ℕ = field_bytes k ++ distance_bytes (length a) (length v) in
    let f2 = placed l 0 (all16 v) (all16 g) e1 e2 (omega arith) in
    let f3 = placed l 0 planes (all16 a) f2 e3 (simp length-append (omega arith)) in
    let f4 = placed l 0 (planes ++ all16 a) t f3 e4 (simp length-append (omega arith)) in
    f4 ∙ ap (λ (n : ℕ). sets l 0 ((planes ++ all16 a) ++ (field_bytes k ++ distance_bytes (length a) n))) hv
    ∙ ap (sets l 0) (sym (append_assoc (planes ++ all16 a) (field_bytes k) (distance_bytes (length a) (pixels k))))

pub written-long : (k : Settings) (v g a : List ℕ) → length v ≡ pixels k → length g ≡ pixels k → length (written k v g a) ≡ written_size k (length a)
unfolding written written_size
written-long k v g a hv hg =
    simp length-append (omega (arith, length-all16 v, length-all16 g, length-all16 a, fields-long k, distances-long (length a) (pixels k)))

pub file-placed : (k : Settings) (v g a old : List ℕ) {out : List ℕ} → WritingFits k v g a (length old) → out ≡ sets old 0 (written k v g a)
    → out ≡ written k v g a ++ drop (length (written k v g a)) old
file-placed k v g a old h e =
    let n : 0 + length (written k v g a) ≤ length old = omega (arith, written-long k v g a h.values h.guides, h.space) in
    e ∙ sets-eq (written k v g a) old 0 n ∙ ap (λ (j : ℕ). written k v g a ++ drop j old) (zero-add (length (written k v g a)))

-- ---- what the output holds by an outcome
pub keeps : (o : Outcome) (new old : List ℕ) → fires o ≡ true → old ≡ stored o new old
keeps accepted new old e = absurd (true≢false (sym e))
keeps (refused j l) new old e = refl

pub saves : (o : Outcome) (new old : List ℕ) → o ≡ accepted → new ++ drop (length new) old ≡ stored o new old
saves accepted new old e = refl
saves (refused j l) new old e = absurd (not-refused e)
