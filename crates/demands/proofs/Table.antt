-- The outcome of each call is the first row of the table that fires: once over any rows that bear their own numbers, and over any rows in order.
-- Assumes nothing.
use Prim.Native.Nat.{ℕ, zero, suc, ◌+◌, ◌*◌, ◌≤◌, ◌<◌}
use mathlib.Core.Path.{◌≡◌, refl, sym, ap, ◌∙◌}
use mathlib.Core.Bool.{Bool, true, false, not, ◌||◌}
use mathlib.Core.List.{List, [], ◌∷◌}
use native.Mathlib.Omega.{arith}
use native.Mathlib.Nat.{le_of_suc-le-suc, not-suc-le-zero}
use lib.Dec.{leb, ltb, eqb}
use lib.ListN.{length, get_or}
use Rattle.spec.specs.declared.Settings.{Settings}
use Rattle.spec.specs.declared.Plan.{Plan}
use Rattle.spec.specs.declared.Room.{Room}
use Rattle.std.specs.Prelude.{if◌then◌else◌}
use Rattle.spec.specs.Base.{first}
use Rattle.spec.specs.Refusal.{Outcome, accepted, refused, ◌▷◌, refuse}
use Rattle.spec.specs.Frame.{trailer_at, settings_of, trailer_of, plan_of, pixels}
use Rattle.spec.specs.Checks.{
  bad_mark,
  bad_size,
  bad_counts,
  bad_kind,
  bad_radius,
  bad_distance,
  scan,
  judged,
  scan_file,
  value_scan,
  guide_scan,
  contents,
  settings_outcome,
  trailer_outcome,
  verdict,
}
use Rattle.spec.specs.Calls.{
  bad_way,
  bad_pixel,
  short,
  walk_checks,
  walk_outcome,
  filter_checks,
  filter_outcome,
  balance_checks,
  balance_outcome,
  explain_checks,
  explain_outcome,
}
use Rattle.spec.specs.Tolerance.{bad_upper, tolerance_checks, tolerance_outcome}
use Rattle.spec.specs.BytePlanes.{bad_overlap, split_outcome, join_outcome}
use Rattle.spec.specs.Cameras.{files_in, bad_batch, verdicts, short_of, cameras_outcome}
use Rattle.spec.specs.Writer.{written_size, bad_length, scan_list, writer_outcome}
use Rattle.spec.proofs.Checks.{not-refused, both-accepted}
use Rattle.demands.specs.Table.{
  trailer_rows,
  file_rows,
  walk_rows,
  filter_rows,
  balance_rows,
  explain_rows,
  writer_rows,
  ByTable,
  tolerance_rows,
  split_rows,
  join_rows,
  files_rows,
  cameras_rows,
  InOrder,
}

-- ---- the first row that fires
abbrev first_of : List Outcome → Outcome
first_of [] = accepted
first_of (o ∷ os) = o ▷ first_of os

-- a check refuses with one number only; and the rows bear the numbers from k on
abbrev RefusesAs : ℕ → Outcome → Type 0
RefusesAs k o = (n : ℕ) (l : List ℕ) → o ≡ refused n l → n ≡ k

abbrev NumberedFrom : ℕ → List Outcome → Type 0
NumberedFrom k [] = Unit {0}
NumberedFrom k (o ∷ os) = RefusesAs k o × NumberedFrom (suc k) os

abbrev number_of : Outcome → ℕ
number_of accepted = 0
number_of (refused n l) = n

from : (k : ℕ) (rows : List Outcome) → NumberedFrom k rows → (n : ℕ) (l : List ℕ) → first_of rows ≡ refused n l → k ≤ n
from k [] h n l e = absurd (not-refused (sym e))
from k (accepted ∷ os) h n l e = let q : suc k ≤ n = from (suc k) os h.1 n l e in omega arith
from k (refused m q ∷ os) h n l e = let d : n ≡ k = h.0 n l e in omega arith

to : (k : ℕ) (rows : List Outcome) → NumberedFrom k rows → (n : ℕ) (l : List ℕ) → first_of rows ≡ refused (k + n) l
    → (get_or rows n accepted ≡ refused (k + n) l) × ((j : ℕ) → j < n → get_or rows j accepted ≡ accepted)
to k [] h n l e = absurd (not-refused (sym e))
to k (accepted ∷ os) h zero l e = let q : suc k ≤ k + zero = from (suc k) os h.1 (k + zero) l e in absurd (omega arith)
to k (accepted ∷ os) h (suc n) l e =
    let s : k + suc n ≡ suc k + n = omega arith in
    let r = to (suc k) os h.1 n l (e ∙ ap (λ (m : ℕ). refused m l) s) in
    (r.0 ∙ ap (λ (m : ℕ). refused m l) (sym s), before r.1)
  where
    before : ((j : ℕ) → j < n → get_or os j accepted ≡ accepted) → (j : ℕ) → j < suc n → get_or (accepted ∷ os) j accepted ≡ accepted
    before r zero i = refl
    before r (suc j) i = r j (le_of_suc-le-suc i)
to k (refused m q ∷ os) h zero l e = (e, λ j i. absurd (not-suc-le-zero i))
to k (refused m q ∷ os) h (suc n) l e = let d : k + suc n ≡ k = h.0 (k + suc n) l e in absurd (omega arith)

back : (rows : List Outcome) (n m : ℕ) (l : List ℕ) → get_or rows n accepted ≡ refused m l → ((j : ℕ) → j < n → get_or rows j accepted ≡ accepted)
    → first_of rows ≡ refused m l
back [] n m l e h = absurd (not-refused (sym e))
back (accepted ∷ os) zero m l e h = absurd (not-refused (sym e))
back (accepted ∷ os) (suc n) m l e h = back os n m l e (λ j i. h (suc j) (omega (arith, i)))
back (refused x y ∷ os) zero m l e h = e
back (refused x y ∷ os) (suc n) m l e h = absurd (not-refused (h 0 (omega arith)))

none : (rows : List Outcome) → first_of rows ≡ accepted → (j : ℕ) → get_or rows j accepted ≡ accepted
none [] e j = refl
none (o ∷ os) e zero = (both-accepted o (first_of os) e).0
none (o ∷ os) e (suc j) = none os (both-accepted o (first_of os) e).1 j

all : (rows : List Outcome) → ((j : ℕ) → get_or rows j accepted ≡ accepted) → first_of rows ≡ accepted
all [] h = refl
all (o ∷ os) h = ap (λ (u : Outcome). u ▷ first_of os) (h 0) ∙ all os (λ j. h (suc j))

by-table : (rows : List Outcome) (o : Outcome) → NumberedFrom 1 rows → o ≡ first_of rows → ByTable rows o
by-table rows o h e =
    record {
      given =
          λ n l. (λ q. there n l (to 1 rows h n l (sym e ∙ q ∙ ap (λ (m : ℕ). refused m l) (next n))), λ q. e ∙ back rows n (suc n) l q.0 q.1);
      passed = (λ q. none rows (sym e ∙ q), λ q. e ∙ all rows q);
      from_one = λ n l q. from 1 rows h n l (sym e ∙ q);
    }
  where
    next : (n : ℕ) → suc n ≡ 1 + n
    next n = omega arith

    there : (n : ℕ) (l : List ℕ) → (get_or rows n accepted ≡ refused (1 + n) l) × ((j : ℕ) → j < n → get_or rows j accepted ≡ accepted)
        → (get_or rows n accepted ≡ refused (suc n) l) × ((j : ℕ) → j < n → get_or rows j accepted ≡ accepted)
    there n l q = (q.0 ∙ ap (λ (m : ℕ). refused m l) (sym (next n)), q.1)

-- ---- each check refuses with its own number
refuses-refuse : (k : ℕ) (t : Bool) → RefusesAs k (refuse k t)
refuses-refuse k true n l e = sym (ap number_of e)
refuses-refuse k false n l e = absurd (not-refused (sym e))

refuses-accepted : (k : ℕ) → RefusesAs k accepted
refuses-accepted k n l e = absurd (not-refused (sym e))

refuses-either : (k : ℕ) (u v : Outcome) → RefusesAs k u → RefusesAs k v → RefusesAs k (u ▷ v)
refuses-either k accepted v a b n l e = b n l e
refuses-either k (refused m q) v a b n l e = a n l e

refuses-if : (c : Bool) (v : List ℕ) → RefusesAs 7 (if c then refused 7 v else accepted)
refuses-if true v n l e = sym (ap number_of e)
refuses-if false v n l e = absurd (not-refused (sym e))

refuses-scan : (f : ℕ → ℕ) (n limit offset : ℕ) → RefusesAs 7 (scan f n limit offset)
unfolding scan
refuses-scan f n limit offset = refuses-if (ltb (first (λ j. leb limit (f j)) n) n) ((offset + 2 * first (λ j. leb limit (f j)) n) ∷ [])

refuses-contents : (b : List ℕ) (z : Plan) → RefusesAs 7 (contents b z)
unfolding contents value_scan guide_scan scan_file
refuses-contents b z = refuses-either 7 _ _ (refuses-scan _ _ _ _) (refuses-scan _ _ _ _)

file-numbered : (b : List ℕ) (own : List Outcome) → NumberedFrom 8 own → NumberedFrom 1 (file_rows b own)
file-numbered b own h =
    let k = settings_of b in (
      refuses-refuse 1 (bad_mark b),
      (
        refuses-refuse 2 (bad_size k),
        (
          refuses-refuse 3 (bad_counts k),
          (
            refuses-refuse 4 (bad_kind k),
            (
              refuses-refuse 5 (bad_radius k),
              (refuses-refuse 6 (bad_distance (trailer_at b) (trailer_of b)), (refuses-contents b (plan_of b), h)),
            ),
          ),
        ),
      ),
    )

-- ---- the outcomes are the first rows that fire
assoc : (u v x : Outcome) → ((u ▷ v) ▷ x) ≡ (u ▷ v ▷ x)
assoc accepted v x = refl
assoc (refused n l) v x = refl

flat : (a b c d e f w : Outcome) → ((a ▷ ((b ▷ c ▷ d ▷ e) ▷ f)) ▷ w) ≡ (a ▷ b ▷ c ▷ d ▷ e ▷ f ▷ w)
flat (refused n l) b c d e f w = refl
flat accepted (refused n l) c d e f w = refl
flat accepted accepted (refused n l) d e f w = refl
flat accepted accepted accepted (refused n l) e f w = refl
flat accepted accepted accepted accepted e f w = assoc e f w

last : (u : Outcome) → u ≡ (u ▷ accepted)
last accepted = refl
last (refused n l) = refl

trailer-first : (b : List ℕ) (w : Outcome) (others : List Outcome) → w ≡ first_of others → (trailer_outcome b ▷ w) ≡ first_of (trailer_rows b others)
unfolding trailer_outcome settings_outcome
trailer-first b w others e =
    let k = settings_of b in
    ap (λ (u : Outcome). trailer_outcome b ▷ u) e ∙ flat (refuse 1 (bad_mark b)) (refuse 2 (bad_size k)) (refuse 3 (bad_counts k)) (refuse 4 (bad_kind k))
    (refuse 5 (bad_radius k)) (refuse 6 (bad_distance (trailer_at b) (trailer_of b))) (first_of others)

file-first : (b : List ℕ) (w : Outcome) (own : List Outcome) → w ≡ first_of own → (verdict b ▷ w) ≡ first_of (file_rows b own)
unfolding verdict
file-first b w own e =
    assoc (trailer_outcome b) (contents b (plan_of b)) w
    ∙ trailer-first b (contents b (plan_of b) ▷ w) (contents b (plan_of b) ∷ own) (ap (λ (u : Outcome). contents b (plan_of b) ▷ u) e)

pub walk-table : (b : List ℕ) (way s t n : ℕ) (have : Room) (out : ℕ) → ByTable (walk_rows b way s t n have out) (walk_outcome b way s t n have out)
unfolding walk_outcome walk_checks
walk-table b way s t n have out =
    let k = settings_of b in
    let w = bad_way k way in
    let x = bad_pixel k s t in
    let m = ltb 1048576 n in
    let r = short k way have out (n + 1) in
    let own : List Outcome = refuse 8 w ∷ refuse 9 x ∷ refuse 10 m ∷ refuse 11 r ∷ [] in
    by-table (file_rows b own) (walk_outcome b way s t n have out)
    (file-numbered b own (refuses-refuse 8 w, (refuses-refuse 9 x, (refuses-refuse 10 m, (refuses-refuse 11 r, tt)))))
    (file-first b (walk_checks k way s t n have out) own (ap (λ (u : Outcome). refuse 8 w ▷ refuse 9 x ▷ refuse 10 m ▷ u) (last (refuse 11 r))))

pub filter-table : (b : List ℕ) (way : ℕ) (have : Room) (out : ℕ) → ByTable (filter_rows b way have out) (filter_outcome b way have out)
unfolding filter_outcome filter_checks
filter-table b way have out =
    let k = settings_of b in
    let w = bad_way k way in
    let r = short k way have out (pixels k) in
    let own : List Outcome = refuse 8 w ∷ accepted ∷ accepted ∷ refuse 11 r ∷ [] in
    by-table (file_rows b own) (filter_outcome b way have out)
    (file-numbered b own (refuses-refuse 8 w, (refuses-accepted 9, (refuses-accepted 10, (refuses-refuse 11 r, tt)))))
    (file-first b (filter_checks k way have out) own (ap (λ (u : Outcome). refuse 8 w ▷ u) (last (refuse 11 r))))

pub balance-table : (b : List ℕ) (s t i : ℕ) → ByTable (balance_rows b s t i) (balance_outcome b s t i)
unfolding balance_outcome balance_checks
balance-table b s t i =
    let k = settings_of b in
    let x = bad_pixel k s t || not (ltb i k.levels) in
    let own : List Outcome = accepted ∷ refuse 9 x ∷ [] in
    by-table (file_rows b own) (balance_outcome b s t i) (file-numbered b own (refuses-accepted 8, (refuses-refuse 9 x, tt)))
    (file-first b (balance_checks k s t i) own (last (refuse 9 x)))

pub explain-table : (b : List ℕ) (s t : ℕ) → ByTable (explain_rows b s t) (explain_outcome b s t)
unfolding explain_outcome explain_checks
explain-table b s t =
    let k = settings_of b in
    let x = bad_pixel k s t in
    let own : List Outcome = accepted ∷ refuse 9 x ∷ [] in
    by-table (file_rows b own) (explain_outcome b s t) (file-numbered b own (refuses-accepted 8, (refuses-refuse 9 x, tt)))
    (file-first b (explain_checks k s t) own (last (refuse 9 x)))

refuses-list : (l : List ℕ) (values : Bool) (limit offset : ℕ) → RefusesAs 7 (scan_list l values limit offset)
unfolding scan_list
refuses-list l values limit offset = refuses-scan (λ j. judged values (get_or l j 0)) (length l) limit offset

flat-writer : (b c d e f x y w : Outcome) → ((b ▷ c ▷ d ▷ e) ▷ f ▷ x ▷ y ▷ w) ≡ (b ▷ c ▷ d ▷ e ▷ f ▷ (x ▷ y) ▷ w)
flat-writer (refused n l) c d e f x y w = refl
flat-writer accepted (refused n l) d e f x y w = refl
flat-writer accepted accepted (refused n l) e f x y w = refl
flat-writer accepted accepted accepted (refused n l) f x y w = refl
flat-writer accepted accepted accepted accepted (refused n l) x y w = refl
flat-writer accepted accepted accepted accepted accepted (refused n l) y w = refl
flat-writer accepted accepted accepted accepted accepted accepted y w = refl

pub writer-table : (k : Settings) (v g a : List ℕ) (room : ℕ) → ByTable (writer_rows k v g a room) (writer_outcome k v g a room)
unfolding writer_outcome settings_outcome
writer-table k v g a room =
    let six = bad_length k (length v) (length g) (length a) in
    let x = scan_list v true k.levels 0 in
    let y = scan_list g false k.guides (2 * pixels k) in
    let r = ltb room (written_size k (length a)) in
    let seven : RefusesAs 7 (x ▷ y) = refuses-either 7 x y (refuses-list v true k.levels 0) (refuses-list g false k.guides (2 * pixels k)) in
    by-table (writer_rows k v g a room) (writer_outcome k v g a room) (
      refuses-accepted 1,
      (
        refuses-refuse 2 (bad_size k),
        (
          refuses-refuse 3 (bad_counts k),
          (
            refuses-refuse 4 (bad_kind k),
            (
              refuses-refuse 5 (bad_radius k),
              (
                refuses-refuse 6 six,
                (seven, (refuses-accepted 8, (refuses-accepted 9, (refuses-accepted 10, (refuses-refuse 11 r, tt))))),
              ),
            ),
          ),
        ),
      ),
    )
    (flat-writer (refuse 2 (bad_size k)) (refuse 3 (bad_counts k)) (refuse 4 (bad_kind k)) (refuse 5 (bad_radius k)) (refuse 6 six) x y (refuse 11 r)
    ∙ ap
    (λ (u : Outcome). refuse 2 (bad_size k) ▷ refuse 3 (bad_counts k) ▷ refuse 4 (bad_kind k) ▷ refuse 5 (bad_radius k) ▷ refuse 6 six ▷ (x ▷ y)
    ▷ u) (last (refuse 11 r)))

-- ---- rows in an order of their own
found : (rows : List Outcome) (n : ℕ) (l : List ℕ) → first_of rows ≡ refused n l
    → (j : ℕ) × (get_or rows j accepted ≡ refused n l) × ((i : ℕ) → i < j → get_or rows i accepted ≡ accepted)
found [] n l e = absurd (not-refused (sym e))
found (accepted ∷ os) n l e = let r = found os n l e in (suc r.0, r.1, before r.0 r.2)
  where
    before : (j : ℕ) → ((i : ℕ) → i < j → get_or os i accepted ≡ accepted) → (i : ℕ) → i < suc j → get_or (accepted ∷ os) i accepted ≡ accepted
    before j r zero h = refl
    before j r (suc i) h = r i (le_of_suc-le-suc h)
found (refused m q ∷ os) n l e = (zero, e, λ i h. absurd (not-suc-le-zero h))

in_order : (rows : List Outcome) (o : Outcome) → o ≡ first_of rows → InOrder rows o
in_order rows o e =
    record {
      given = λ n l. (λ q. found rows n l (sym e ∙ q), λ q. e ∙ back rows q.0 n l q.1 q.2);
      passed = (λ q. none rows (sym e ∙ q), λ q. e ∙ all rows q);
    }

pub tolerance-table : (b upper : List ℕ) (have : Room) (least greatest : ℕ)
    → InOrder (tolerance_rows b upper have least greatest) (tolerance_outcome b upper have least greatest)
unfolding tolerance_outcome tolerance_checks
tolerance-table b upper have least greatest =
    let k = settings_of b in
    let w = eqb k.kind 2 in
    let x = bad_upper b upper in
    let r = short k 1 have least (pixels k) || ltb greatest (pixels k) in
    let own : List Outcome = refuse 8 w ∷ refuse 13 x ∷ refuse 11 r ∷ [] in
    in_order (file_rows b own) (tolerance_outcome b upper have least greatest)
    (file-first b (tolerance_checks b upper have least greatest) own (ap (λ (u : Outcome). refuse 8 w ▷ refuse 13 x ▷ u) (last (refuse 11 r))))

pub split-table : (b : List ℕ) (room : ℕ) → InOrder (split_rows b room) (split_outcome b room)
unfolding split_outcome
split-table b room =
    let x = refuse 14 (bad_overlap (plan_of b)) in
    let y = contents b (plan_of b) in
    let r = ltb room (length b) in
    in_order (split_rows b room) (split_outcome b room)
    (trailer-first b (x ▷ y ▷ refuse 11 r) (x ∷ y ∷ refuse 11 r ∷ []) (ap (λ (u : Outcome). x ▷ y ▷ u) (last (refuse 11 r))))

pub join-table : (b : List ℕ) (room : ℕ) → InOrder (join_rows b room) (join_outcome b room)
unfolding join_outcome
join-table b room =
    let x = refuse 14 (bad_overlap (plan_of b)) in
    let r = ltb room (length b) in
    in_order (join_rows b room) (join_outcome b room)
    (trailer-first b (x ▷ refuse 11 r) (x ∷ refuse 11 r ∷ []) (ap (λ (u : Outcome). x ▷ u) (last (refuse 11 r))))

files-first : (fs : List (List ℕ)) (w : Outcome) (own : List Outcome) → w ≡ first_of own → (verdicts fs ▷ w) ≡ first_of (files_rows fs own)
unfolding verdicts
files-first [] w own e = e
files-first (f ∷ fs) w own e = assoc (verdict f) (verdicts fs) w ∙ file-first f (verdicts fs ▷ w) (files_rows fs own) (files-first fs w own e)

pub cameras-table : (b lengths limits : List ℕ) (counts words answers : ℕ)
    → InOrder (cameras_rows b lengths limits counts words answers) (cameras_outcome b lengths limits counts words answers)
unfolding cameras_outcome
cameras-table b lengths limits counts words answers =
    let fs = files_in lengths b in
    let r = refuse 11 (short_of fs counts words answers) in
    in_order (cameras_rows b lengths limits counts words answers) (cameras_outcome b lengths limits counts words answers)
    (ap (λ (u : Outcome). refuse 15 (bad_batch b lengths limits) ▷ u) (files-first fs r (r ∷ []) (last r)))
