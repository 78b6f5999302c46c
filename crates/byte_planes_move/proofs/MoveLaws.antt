-- Laws of bytes that are moved: a run of stores with one more or another run behind it, the bytes of a file two apart, and a run that grows by two
-- bytes at a time. Each place is an equation of its own, so that a store at another place makes that equation false. Assumes nothing.
use mathlib.Core.Path.{◌≡◌, refl, sym, ap, ap₂, ◌∙◌}
use mathlib.Core.List.{List, [], ◌∷◌, ◌++◌, append_assoc}
use Prim.Native.Nat.{ℕ, ◌+◌, ◌-◌, ◌*◌, ◌%◌, ◌≤◌, ◌<◌}
use native.Mathlib.Nat.{zero-add}
use native.Mathlib.Numerals.{add-one}
use native.Mathlib.Omega.{arith}
use lib.ListN.{length, get_or, set, take, drop, length-append, length-drop}
use lib.Seq.{sets, ext_get_or, take-suc, take_all, get_or-take, get_or-drop, length-take-le}
use Rattle.spec.specs.Base.{tabulate_from, tabulate}
use Rattle.spec.specs.Bytes.{AllBytes}
use Rattle.spec.specs.BytePlanes.{high_bytes, low_bytes, in_turn, split_plane, joined_plane}
use Rattle.spec.proofs.First.{length-tabulate, get_d_tabulate, tabulate-add}
use Rattle.spec.proofs.Lists.{sets-append, part-long, part-cell}
use Rattle.spec.proofs.BytePlanes.{high-long, low-long, high-at, low-at, turn-long, turn-next, split-long, joined-long}
use Rattle.big_endian_part.specs.Part.{low_first}
use Rattle.byte_planes_move.specs.EveryOther.{every_other}

-- one more store behind a run
more : (l : List ℕ) (from : ℕ) (vs : List ℕ) {at : ℕ} (x : ℕ) → at ≡ from + length vs → set (sets l from vs) at x ≡ sets l from (vs ++ (x ∷ []))
more l from vs {at} x e = ap (λ (j : ℕ). set (sets l from vs) j x) e ∙ sets-append vs (x ∷ []) l from

-- ---- bytes as they are
pub none-copied : (l file : List ℕ) (from : ℕ) → l ≡ sets l from (take (from - from) (drop from file))
none-copied l file from =
    let e : 0 ≡ from - from = omega arith in
    ap (λ (k : ℕ). sets l from (take k (drop from file))) e

pub copied : (l file : List ℕ) (from : ℕ) {i x : ℕ} {old : List ℕ} → from ≤ i → i < length file → x ≡ get_or file i 0
    → old ≡ sets l from (take (i - from) (drop from file)) → set old i x ≡ sets l from (take (i + 1 - from) (drop from file))
copied l file from {i} {x} {old} low high e is =
    let bytes = drop from file in
    let q = i - from in
    let long : q < length bytes = omega (arith, length-drop from file) in
    let at : from + q ≡ i = omega arith in
    let next : q + 1 ≡ i + 1 - from = omega arith in
    let byte : x ≡ get_or bytes q 0 = e ∙ ap (λ (k : ℕ). get_or file k 0) (sym at) ∙ sym (get_or-drop from file q 0) in
    ap (λ (k : List ℕ). set k i x) is ∙ more l from (take q bytes) x (omega (arith, length-take-le q bytes (omega arith)))
    ∙ ap (λ (b : ℕ). sets l from (take q bytes ++ (b ∷ []))) byte ∙ ap (sets l from) (sym (take-suc bytes q 0 long))
    ∙ ap (λ (k : ℕ). sets l from (take k bytes)) (sym (add-one q) ∙ next)

-- ---- bytes two apart
pub none-put : (l file : List ℕ) (from at : ℕ) → l ≡ sets l at (every_other file from 0)
unfolding every_other tabulate tabulate_from
none-put l file from at = refl

-- so many more of them behind so many
pub more-put : (l file : List ℕ) (from at q m : ℕ) {place start : ℕ} {old new : List ℕ} → old ≡ sets l at (every_other file from q)
    → new ≡ sets old place (every_other file start m) → place ≡ at + q → start ≡ from + 2 * q → new ≡ sets l at (every_other file from (q + m))
unfolding every_other
more-put l file from at q m {place} {start} {old} e f p s =
    let x = tabulate q (λ k. get_or file (from + 2 * k) 0) in
    let y = tabulate m (λ k. get_or file (start + 2 * k) 0) in
    let same : y ≡ tabulate m (λ k. get_or file (from + 2 * (q + k)) 0) =
    ext_get_or 0 _ _ (length-tabulate m _ ∙ sym (length-tabulate m _))
    (λ i h. let low : i < m = omega (arith, length-tabulate m (λ k. get_or file (start + 2 * k) 0)) in
    let there : start + 2 * i ≡ from + 2 * (q + i) = omega arith in rw (get_d_tabulate m, get_d_tabulate m, there) refl) in
    f ∙ ap (λ (k : List ℕ). sets k place y) e ∙ ap (λ (j : ℕ). sets (sets l at x) j y) (p ∙ ap (λ (k : ℕ). at + k) (sym (length-tabulate q _)))
    ∙ sets-append x y l at ∙ ap (λ (k : List ℕ). sets l at (x ++ k)) same ∙ ap (sets l at) (sym (tabulate-add q m _))

-- one more
pub one-put : (l file : List ℕ) (from at q : ℕ) {place x : ℕ} {old : List ℕ} → old ≡ sets l at (every_other file from q) → place ≡ at + q
    → x ≡ get_or file (from + 2 * q) 0 → set old place x ≡ sets l at (every_other file from (q + 1))
unfolding every_other tabulate tabulate_from
one-put l file from at q {place} {x} {old} e p b =
    more-put l file from at q 1 {place = place} {start = from + 2 * q} e (ap (set old place) (b ∙ ap (λ (k : ℕ). get_or file k 0) here)) p refl
  where
    here : from + 2 * q ≡ from + 2 * q + 2 * 0
    here = omega arith

-- the first byte of a number that is read low byte first
pub first_byte : (b : List ℕ) → AllBytes b → (from j : ℕ) → low_first b from j % 256 ≡ get_or b (from + 2 * j) 0
unfolding low_first
first_byte b bytes from j = omega (arith, bytes (from + 2 * j))

-- ---- a plane of n numbers from a byte of the file on
abbrev plane_at : List ℕ → ℕ → ℕ → List ℕ
plane_at file at n = take (2 * n) (drop at file)

-- q numbers of it joined
abbrev pub Joined : List ℕ → List ℕ → ℕ → ℕ → ℕ → List ℕ → Type 0
Joined l file at n q out = out ≡ sets l at (in_turn (take q (take n (plane_at file at n))) (take q (drop n (plane_at file at n))))

pub none-joined : (l file : List ℕ) (at n : ℕ) → Joined l file at n 0 l
unfolding in_turn
none-joined l file at n = refl

module _ (l file : List ℕ) (at n : ℕ) (fits : at + 2 * n ≤ length file) where
  abbrev bytes : List ℕ
  bytes = plane_at file at n

  long : length bytes ≡ 2 * n
  long = part-long file at (2 * n) fits

  highs-are : every_other file at n ≡ high_bytes bytes
  unfolding every_other
  highs-are =
      ext_get_or 0 _ _ (length-tabulate n _ ∙ sym (high-long bytes n long))
      (λ q h. let low : q < n = omega (arith, length-tabulate n (λ k. get_or file (at + 2 * k) 0)) in
      get_d_tabulate n _ q 0 low ∙ sym (high-at bytes q (omega (arith, long)) ∙ part-cell file at (2 * n) (2 * q) (omega arith)))

  lows-are : every_other file (at + 1) n ≡ low_bytes bytes
  unfolding every_other
  lows-are =
      ext_get_or 0 _ _ (length-tabulate n _ ∙ sym (low-long bytes n long))
      (λ q h. let low : q < n = omega (arith, length-tabulate n (λ k. get_or file (at + 1 + 2 * k) 0)) in
      let there : at + 1 + 2 * q ≡ at + (2 * q + 1) = omega arith in
      get_d_tabulate n _ q 0 low ∙ ap (λ (k : ℕ). get_or file k 0) there
      ∙ sym (low-at bytes q (omega (arith, long)) ∙ part-cell file at (2 * n) (2 * q + 1) (omega arith)))

  pub both-put : {start place : ℕ} {old new : List ℕ} → old ≡ sets l at (every_other file at n) → new ≡ sets old place (every_other file start n)
      → start ≡ at + 1 → place ≡ at + n → new ≡ sets l at (split_plane bytes)
  unfolding split_plane
  both-put {start} {place} {old} e f s p =
      f ∙ ap (λ (k : ℕ). sets old place (every_other file k n)) s
      ∙ ap₂ (λ (x y : List ℕ). sets x place y) (e ∙ ap (sets l at) highs-are) lows-are
      ∙ ap (λ (j : ℕ). sets (sets l at (high_bytes bytes)) j (low_bytes bytes)) (p ∙ ap (λ (k : ℕ). at + k) (sym (high-long bytes n long)))
      ∙ sets-append (high_bytes bytes) (low_bytes bytes) l at

  abbrev highs : List ℕ
  highs = take n bytes

  abbrev lows : List ℕ
  lows = drop n bytes

  front_long : length highs ≡ n
  front_long = length-take-le n bytes (omega (arith, long))

  back_long : length lows ≡ n
  back_long = omega (arith, length-drop n bytes, long)

  pub join-next : {q i j x y : ℕ} {out : List ℕ} → q < n → i ≡ at + 2 * q → j ≡ at + 2 * q + 1 → x ≡ get_or file (at + q) 0
      → y ≡ get_or file (at + n + q) 0 → Joined l file at n q out → Joined l file at n (q + 1) (set (set out i x) j y)
  join-next {q} {i} {j} {x} {y} {out} h ei ej ex ey is =
      let done = in_turn (take q highs) (take q lows) in
      let many : length done ≡ 2 * q =
      turn-long (take q highs) (take q lows) q (length-take-le q highs (omega (arith, front_long)))
      (length-take-le q lows (omega (arith, back_long))) in
      let hx : x ≡ get_or highs q 0 = ex ∙ sym (get_or-take n bytes q 0 h ∙ part-cell file at (2 * n) q (omega arith)) in
      let place : at + n + q ≡ at + (n + q) = omega arith in
      let hy : y ≡ get_or lows q 0 =
      ey ∙ ap (λ (k : ℕ). get_or file k 0) place ∙ sym (get_or-drop n bytes q 0 ∙ part-cell file at (2 * n) (n + q) (omega arith)) in
      ap (λ (k : List ℕ). set (set k i x) j y) is ∙ ap (λ (k : List ℕ). set k j y) (more l at done x (omega arith))
      ∙ more l at (done ++ (x ∷ [])) y (omega (arith, length-append done (x ∷ [])))
      ∙ ap (sets l at) (append_assoc done (x ∷ []) (y ∷ []) ∙ ap₂ (λ (b c : ℕ). done ++ (b ∷ c ∷ [])) hx hy
      ∙ sym (turn-next highs lows q (omega (arith, front_long)) (omega (arith, back_long))))
      ∙ ap (λ (k : ℕ). sets l at (in_turn (take k highs) (take k lows))) (sym (add-one q))

  pub join-all : (q : ℕ) {out : List ℕ} → q ≡ n → Joined l file at n q out → out ≡ sets l at (joined_plane n bytes)
  unfolding joined_plane
  join-all q e is =
      is ∙ ap₂ (λ (x y : List ℕ). sets l at (in_turn x y)) (take_all q highs (omega (arith, front_long))) (take_all q lows (omega (arith, back_long)))

-- ---- a whole file: the bytes before the plane, the plane's, those behind it
pub file-moved : (l file plane : List ℕ) (at n : ℕ) {e : ℕ} {x y z : List ℕ} → at + 2 * n ≤ length file → length plane ≡ 2 * n
    → x ≡ sets l 0 (take (at - 0) (drop 0 file)) → y ≡ sets x at plane → z ≡ sets y e (take (length file - e) (drop e file)) → e ≡ at + 2 * n
    → z ≡ sets l 0 (take at file ++ plane ++ drop (at + 2 * n) file)
file-moved l file plane at n {e} {x} {y} {z} fits long ex ey ez ee =
    let none : at - 0 ≡ at = omega arith in
    let end = at + 2 * n in
    let head : length (take at file) ≡ at = length-take-le at file (omega arith) in
    let front : length (take at file ++ plane) ≡ end = omega (arith, length-append (take at file) plane) in
    let first : x ≡ sets l 0 (take at file) = ex ∙ ap (λ (k : ℕ). sets l 0 (take k file)) none in
    let second : y ≡ sets l 0 (take at file ++ plane) =
    ey ∙ ap (λ (k : List ℕ). sets k at plane) first ∙ ap (λ (j : ℕ). sets (sets l 0 (take at file)) j plane) (sym head ∙ sym (zero-add _))
    ∙ sets-append (take at file) plane l 0 in
    let rest : take (length file - end) (drop end file) ≡ drop end file =
    take_all (length file - end) (drop end file) (omega (arith, length-drop end file)) in
    ez ∙ ap (λ (k : ℕ). sets y k (take (length file - k) (drop k file))) ee ∙ ap (sets y end) rest
    ∙ ap (λ (k : List ℕ). sets k end (drop end file)) second
    ∙ ap (λ (j : ℕ). sets (sets l 0 (take at file ++ plane)) j (drop end file)) (sym front ∙ sym (zero-add _))
    ∙ sets-append (take at file ++ plane) (drop end file) l 0

-- the two planes have the plane's length
pub split-plane-long : (file : List ℕ) (at n : ℕ) → at + 2 * n ≤ length file → length (split_plane (plane_at file at n)) ≡ 2 * n
split-plane-long file at n fits = split-long (plane_at file at n) n (part-long file at (2 * n) fits)

pub joined-plane-long : (file : List ℕ) (at n : ℕ) → at + 2 * n ≤ length file → length (joined_plane n (plane_at file at n)) ≡ 2 * n
joined-plane-long file at n fits = joined-long (plane_at file at n) n (part-long file at (2 * n) fits)
