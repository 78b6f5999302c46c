-- Laws of byte planes: a plane split and joined, byte by byte; a file with another value plane has the file's trailer; what was split, joining
-- restores; and what the checks of the two calls say.
-- Assumes nothing.
use mathlib.Core.Path.{◌≡◌, refl, sym, ap, ap₂, ◌∙◌, subst}
use mathlib.Core.Bool.{Bool, true, false, not, ◌||◌}
use mathlib.Core.Logic.{◌↔◌, ◌≢◌}
use mathlib.Core.List.{List, [], ◌∷◌, ◌++◌, append_assoc}
use Prim.Native.Nat.{ℕ, zero, suc, ◌+◌, ◌-◌, ◌*◌, ◌≤◌, ◌<◌, min, max}
use native.Mathlib.Nat.{add-zero}
use native.Mathlib.Omega.{arith}
use lib.Dec.{ltb, eqb}
use lib.ListN.{length, get_or, take, drop, length-append, length-drop, take-append-drop, get_or-append}
use lib.Seq.{take_at, drop_at, take-take, take-add, get_or-append-add, get_or-take, get_or-drop, length-take-le}
use borrow.Author.Tests.{ltb-true, ltb-false, lt-ltb, le-ltb, eqb-true, eqb-false}
use Rattle.spec.specs.declared.Plan.{Plan}
use Rattle.spec.specs.declared.Settings.{Settings}
use Rattle.spec.specs.Bytes.{be16, be32}
use Rattle.spec.specs.Refusal.{accepted, ◌▷◌, refuse}
use Rattle.spec.specs.Frame.{trailer_at, settings_of, trailer_of, own_weights, plan_of, pixels, value_part}
use Rattle.spec.specs.Checks.{bad_mark, settings_outcome, bad_distance, contents, trailer_outcome}
use Rattle.spec.specs.BytePlanes.{
  high_bytes,
  low_bytes,
  in_turn,
  split_plane,
  joined_plane,
  with_plane,
  split_file,
  joined_file,
  overlap,
  bad_overlap,
  split_outcome,
  join_outcome,
}
use Rattle.spec.proofs.Checks.{both-accepted, not-fired, trailer-passed}
use Rattle.spec.proofs.Lists.{part-long, part-cell}

-- ---- the bytes of a plane of n numbers

pub high-long : (plane : List ℕ) (n : ℕ) → length plane ≡ 2 * n → length (high_bytes plane) ≡ n
unfolding high_bytes
high-long [] n e = omega arith
high-long (h ∷ []) n e = absurd (omega arith)
high-long (h ∷ l ∷ plane) zero e = absurd (omega arith)
high-long (h ∷ l ∷ plane) (suc n) e = ap suc (high-long plane n (omega arith))

pub low-long : (plane : List ℕ) (n : ℕ) → length plane ≡ 2 * n → length (low_bytes plane) ≡ n
unfolding low_bytes
low-long [] n e = omega arith
low-long (h ∷ []) n e = absurd (omega arith)
low-long (h ∷ l ∷ plane) zero e = absurd (omega arith)
low-long (h ∷ l ∷ plane) (suc n) e = ap suc (low-long plane n (omega arith))

pub high-at : (plane : List ℕ) (q : ℕ) → 2 * q + 1 < length plane → get_or (high_bytes plane) q 0 ≡ get_or plane (2 * q) 0
unfolding high_bytes
high-at [] q h = absurd (omega arith)
high-at (x ∷ []) q h = absurd (omega arith)
high-at (x ∷ y ∷ plane) zero h = refl
high-at (x ∷ y ∷ plane) (suc q) h =
    let e : suc (suc (2 * q)) ≡ 2 * suc q = omega arith in
    high-at plane q (omega arith) ∙ ap (λ (k : ℕ). get_or (x ∷ y ∷ plane) k 0) e

pub low-at : (plane : List ℕ) (q : ℕ) → 2 * q + 1 < length plane → get_or (low_bytes plane) q 0 ≡ get_or plane (2 * q + 1) 0
unfolding low_bytes
low-at [] q h = absurd (omega arith)
low-at (x ∷ []) q h = absurd (omega arith)
low-at (x ∷ y ∷ plane) zero h = refl
low-at (x ∷ y ∷ plane) (suc q) h =
    let e : suc (suc (2 * q + 1)) ≡ 2 * suc q + 1 = omega arith in
    low-at plane q (omega arith) ∙ ap (λ (k : ℕ). get_or (x ∷ y ∷ plane) k 0) e

-- ---- two lists in turn

pub turn-long : (highs lows : List ℕ) (n : ℕ) → length highs ≡ n → length lows ≡ n → length (in_turn highs lows) ≡ 2 * n
unfolding in_turn
turn-long [] lows n e f = omega arith
turn-long (h ∷ highs) [] n e f = absurd (omega arith)
turn-long (h ∷ highs) (l ∷ lows) zero e f = absurd (omega arith)
turn-long (h ∷ highs) (l ∷ lows) (suc n) e f = let r = turn-long highs lows n (omega arith) (omega arith) in omega arith

-- one number more
pub turn-next : (highs lows : List ℕ) (q : ℕ) → q < length highs → q < length lows
    → in_turn (take (suc q) highs) (take (suc q) lows) ≡ in_turn (take q highs) (take q lows) ++ (get_or highs q 0 ∷ get_or lows q 0 ∷ [])
unfolding in_turn
turn-next [] lows q h k = absurd (omega arith)
turn-next (x ∷ highs) [] q h k = absurd (omega arith)
turn-next (x ∷ highs) (y ∷ lows) zero h k = refl
turn-next (x ∷ highs) (y ∷ lows) (suc q) h k = ap (λ (l : List ℕ). x ∷ y ∷ l) (turn-next highs lows q (omega arith) (omega arith))

-- a plane's high bytes and low bytes in turn are the plane
turned-back : (plane : List ℕ) (n : ℕ) → length plane ≡ 2 * n → in_turn (high_bytes plane) (low_bytes plane) ≡ plane
unfolding high_bytes low_bytes in_turn
turned-back [] n e = refl
turned-back (h ∷ []) n e = absurd (omega arith)
turned-back (h ∷ l ∷ plane) zero e = absurd (omega arith)
turned-back (h ∷ l ∷ plane) (suc n) e = ap (λ (p : List ℕ). h ∷ l ∷ p) (turned-back plane n (omega arith))

-- ---- a plane split, and joined

module _ (plane : List ℕ) (n : ℕ) (long : length plane ≡ 2 * n) where
  pub split-long : length (split_plane plane) ≡ 2 * n
  unfolding split_plane
  split-long = omega (arith, length-append (high_bytes plane) (low_bytes plane), high-long plane n long, low-long plane n long)

  pub joined-long : length (joined_plane n plane) ≡ 2 * n
  unfolding joined_plane
  joined-long = turn-long _ _ n (length-take-le n plane (omega arith)) (omega (arith, length-drop n plane))

  plane-restored : joined_plane n (split_plane plane) ≡ plane
  unfolding joined_plane split_plane
  plane-restored =
      let h = high-long plane n long in
      ap₂ in_turn (take_at (high_bytes plane) (low_bytes plane) n h) (drop_at (high_bytes plane) (low_bytes plane) n h) ∙ turned-back plane n long

-- ---- two files of one length that are alike from the trailer on: the same trailer, the same plan, the same checks

module _ (b c : List ℕ) (same : length c ≡ length b) (tail : (i : ℕ) → trailer_at b ≤ i → get_or c i 0 ≡ get_or b i 0) where
  at_same : trailer_at c ≡ trailer_at b
  unfolding trailer_at
  at_same = ap (λ (n : ℕ). n - 28) same

  byte-same : (k : ℕ) → get_or c (trailer_at c + k) 0 ≡ get_or b (trailer_at b + k) 0
  byte-same k = ap (λ (n : ℕ). get_or c (n + k) 0) at_same ∙ tail (trailer_at b + k) (omega arith)

  two-same : (k : ℕ) → be16 c (trailer_at c + k) ≡ be16 b (trailer_at b + k)
  unfolding be16
  two-same k =
      let e : trailer_at c + k + 1 ≡ trailer_at c + (k + 1) = omega arith in
      let d : trailer_at b + (k + 1) ≡ trailer_at b + k + 1 = omega arith in
      ap₂ (λ (x y : ℕ). x * 256 + y) (byte-same k) (ap (λ (n : ℕ). get_or c n 0) e ∙ byte-same (k + 1) ∙ ap (λ (n : ℕ). get_or b n 0) d)

  four_same : (k : ℕ) → be32 c (trailer_at c + k) ≡ be32 b (trailer_at b + k)
  unfolding be32
  four_same k =
      let e : trailer_at c + k + 2 ≡ trailer_at c + (k + 2) = omega arith in
      let d : trailer_at b + (k + 2) ≡ trailer_at b + k + 2 = omega arith in
      ap₂ (λ (x y : ℕ). x * 65536 + y) (two-same k) (ap (be16 c) e ∙ two-same (k + 2) ∙ ap (be16 b) d)

  first_two : be16 c (trailer_at c) ≡ be16 b (trailer_at b)
  first_two = ap (be16 c) (sym (add-zero (trailer_at c))) ∙ two-same 0 ∙ ap (be16 b) (add-zero (trailer_at b))

  settings-same : settings_of c ≡ settings_of b
  unfolding settings_of
  settings-same =
      λ i. record {
        width = first_two i;
        height = two-same 2 i;
        levels = two-same 4 i;
        guides = two-same 6 i;
        kind = byte-same 8 i;
        radius = byte-same 9 i;
        smoothing = two-same 10 i;
      }

  trailer-same : trailer_of c ≡ trailer_of b
  unfolding trailer_of
  trailer-same = λ i. record { settings = settings-same i; value = four_same 12 i; guide = four_same 16 i; table = four_same 20 i }

  mark-same : bad_mark c ≡ bad_mark b
  unfolding bad_mark
  mark-same = ap₂ (λ (x y : ℕ). ltb x 28 || not (eqb y 0x49434531)) same (four_same 24)

  plan-same : plan_of c ≡ plan_of b
  unfolding plan_of
  plan-same = λ i.
      let k = settings-same i in
      let t = trailer-same i in
      let at = at_same i in
      record {
        width = k.width;
        height = k.height;
        levels = k.levels;
        guides = k.guides;
        kind = k.kind;
        radius = k.radius;
        smoothing = k.smoothing;
        value = at - t.value;
        guide = at - t.guide;
        table = at - t.table;
        weights = own_weights t;
      }

  outcome-same : trailer_outcome c ≡ trailer_outcome b
  unfolding trailer_outcome
  outcome-same = λ i. refuse 1 (mark-same i) ▷ settings_outcome (settings-same i) ▷ refuse 6 (bad_distance (at_same i) (trailer-same i))

-- ---- a file whose trailer and distances pass: where its value plane lies

pub value-start : (b : List ℕ) → value_part b ≡ take (2 * pixels (settings_of b)) (drop (plan_of b).value b)
unfolding value_part plan_of
value-start b = refl

module _ (b : List ℕ) (ok : trailer_outcome b ≡ accepted) where
  value-ends : (plan_of b).value + 2 * pixels (settings_of b) ≤ trailer_at b
  unfolding plan_of trailer_of
  value-ends = let n = (trailer-passed b ok).near in omega (arith, n.value-long, n.value_in)

  trailer-within : trailer_at b ≤ length b
  unfolding trailer_at
  trailer-within = omega (arith, (trailer-passed b ok).long)

  pub value-within : (plan_of b).value + 2 * pixels (settings_of b) ≤ length b
  value-within = omega (arith, value-ends, trailer-within)

  pub value-long : length (value_part b) ≡ 2 * pixels (settings_of b)
  value-long = ap length (value-start b) ∙ part-long b (plan_of b).value (2 * pixels (settings_of b)) value-within

  -- ---- with another value plane: its length, its bytes, its trailer
  module _ (plane : List ℕ) (long : length plane ≡ 2 * pixels (settings_of b)) where
    head-long : length (take (plan_of b).value b) ≡ (plan_of b).value
    head-long = length-take-le (plan_of b).value b (omega (arith, value-within))

    -- what comes before the file's rest
    front_long : length (take (plan_of b).value b ++ plane) ≡ (plan_of b).value + 2 * pixels (settings_of b)
    front_long = omega (arith, length-append (take (plan_of b).value b) plane, head-long, long)

    pub with-long : length (with_plane b plane) ≡ length b
    unfolding with_plane
    with-long =
        let v = (plan_of b).value in
        let n = 2 * pixels (settings_of b) in
        omega (arith, length-append (take v b ++ plane) (drop (v + n) b), front_long, length-drop (v + n) b, value-within)

    with-front : take ((plan_of b).value + 2 * pixels (settings_of b)) (with_plane b plane) ≡ take (plan_of b).value b ++ plane
    unfolding with_plane
    with-front = take_at (take (plan_of b).value b ++ plane) _ _ front_long

    with_rest : drop ((plan_of b).value + 2 * pixels (settings_of b)) (with_plane b plane) ≡ drop ((plan_of b).value + 2 * pixels (settings_of b)) b
    unfolding with_plane
    with_rest = drop_at (take (plan_of b).value b ++ plane) _ _ front_long

    with-head : take (plan_of b).value (with_plane b plane) ≡ take (plan_of b).value b
    with-head =
        let v = (plan_of b).value in
        sym (take-take v (v + 2 * pixels (settings_of b)) (with_plane b plane) (omega arith)) ∙ ap (take v) with-front
        ∙ take_at (take v b) plane v head-long

    with_part_lem : take (2 * pixels (settings_of b)) (drop (plan_of b).value (with_plane b plane)) ≡ plane
    unfolding with_plane
    with_part_lem =
        let v = (plan_of b).value in
        let n = 2 * pixels (settings_of b) in
        ap (λ (l : List ℕ). take n (drop v l)) (append_assoc (take v b) plane (drop (v + n) b))
        ∙ ap (take n) (drop_at (take v b) (plane ++ drop (v + n) b) v head-long) ∙ take_at plane (drop (v + n) b) n long

    -- before the value plane, in it, and behind it
    pub byte-before : (k : ℕ) → k < (plan_of b).value → get_or (with_plane b plane) k 0 ≡ get_or b k 0
    byte-before k h =
        let v = (plan_of b).value in
        sym (get_or-take v (with_plane b plane) k 0 h) ∙ ap (λ (l : List ℕ). get_or l k 0) with-head ∙ get_or-take v b k 0 h

    pub byte_inside : (k : ℕ) → k < 2 * pixels (settings_of b) → get_or (with_plane b plane) ((plan_of b).value + k) 0 ≡ get_or plane k 0
    byte_inside k h =
        sym (part-cell (with_plane b plane) (plan_of b).value (2 * pixels (settings_of b)) k h) ∙ ap (λ (l : List ℕ). get_or l k 0) with_part_lem

    pub byte-behind : (k : ℕ) → (plan_of b).value + 2 * pixels (settings_of b) ≤ k → get_or (with_plane b plane) k 0 ≡ get_or b k 0
    byte-behind k h =
        let e = (plan_of b).value + 2 * pixels (settings_of b) in
        let at : e + (k - e) ≡ k = omega arith in
        ap (λ (j : ℕ). get_or (with_plane b plane) j 0) (sym at) ∙ sym (get_or-drop e (with_plane b plane) (k - e) 0)
        ∙ ap (λ (l : List ℕ). get_or l (k - e) 0) with_rest ∙ get_or-drop e b (k - e) 0 ∙ ap (λ (j : ℕ). get_or b j 0) at

    tail-same : (k : ℕ) → trailer_at b ≤ k → get_or (with_plane b plane) k 0 ≡ get_or b k 0
    tail-same k h = byte-behind k (omega (arith, value-ends))

    with-settings : settings_of (with_plane b plane) ≡ settings_of b
    with-settings = settings-same b (with_plane b plane) with-long tail-same

    pub with-plan : plan_of (with_plane b plane) ≡ plan_of b
    with-plan = plan-same b (with_plane b plane) with-long tail-same

    pub with-outcome : trailer_outcome (with_plane b plane) ≡ trailer_outcome b
    with-outcome = outcome-same b (with_plane b plane) with-long tail-same

    with_value : value_part (with_plane b plane) ≡ plane
    with_value =
        value-start (with_plane b plane)
        ∙ ap₂ (λ (k : Settings) (z : Plan). take (2 * pixels k) (drop z.value (with_plane b plane))) with-settings with-plan ∙ with_part_lem

    -- and another one in its place
    with-again : (other : List ℕ) → with_plane (with_plane b plane) other ≡ with_plane b other
    unfolding with_plane
    with-again other =
        let c = with_plane b plane in
        ap₂ (λ (k : Settings) (z : Plan). take z.value c ++ other ++ drop (z.value + 2 * pixels k) c) with-settings with-plan
        ∙ ap₂ (λ (x y : List ℕ). x ++ other ++ y) with-head with_rest

  with-own : with_plane b (value_part b) ≡ b
  unfolding with_plane
  with-own =
      let v = (plan_of b).value in
      let n = 2 * pixels (settings_of b) in
      ap (λ (p : List ℕ). take v b ++ p ++ drop (v + n) b) (value-start b) ∙ ap (λ (l : List ℕ). l ++ drop (v + n) b) (sym (take-add v n b))
      ∙ take-append-drop (v + n) b

  -- ---- the file split: its length and plan, and joined again the file
  parts-split : length (split_plane (value_part b)) ≡ 2 * pixels (settings_of b)
  parts-split = split-long (value_part b) (pixels (settings_of b)) value-long

  pub file-split-long : length (split_file b) ≡ length b
  unfolding split_file
  file-split-long = with-long _ parts-split

  pub file-split-plan : plan_of (split_file b) ≡ plan_of b
  unfolding split_file
  file-split-plan = with-plan _ parts-split

  pub file-split-outcome : trailer_outcome (split_file b) ≡ trailer_outcome b
  unfolding split_file
  file-split-outcome = with-outcome _ parts-split

  pub file-joined-long : length (joined_file b) ≡ length b
  unfolding joined_file
  file-joined-long = with-long _ (joined-long (value_part b) (pixels (settings_of b)) value-long)

  pub restored : joined_file (split_file b) ≡ b
  unfolding joined_file split_file
  restored =
      let p = value_part b in
      let n = pixels (settings_of b) in
      let c = with_plane b (split_plane p) in
      ap₂ (λ (k : Settings) (l : List ℕ). with_plane c (joined_plane (pixels k) l)) (with-settings _ parts-split) (with_value _ parts-split)
      ∙ ap (with_plane c) (plane-restored p n value-long) ∙ with-again _ parts-split p ∙ with-own

  -- each byte of a split file: of the value plane, whose number q has the high byte 2 * q and the low byte after it
  pub split-high : (q : ℕ) → q < pixels (settings_of b) → get_or (split_file b) ((plan_of b).value + q) 0 ≡ get_or b ((plan_of b).value + 2 * q) 0
  unfolding split_file split_plane
  split-high q h =
      let p = value_part b in
      let n = pixels (settings_of b) in
      byte_inside _ parts-split q (omega arith) ∙ get_or-append (high_bytes p) (low_bytes p) 0 q (omega (arith, high-long p n value-long))
      ∙ high-at p q (omega (arith, value-long)) ∙ ap (λ (l : List ℕ). get_or l (2 * q) 0) (value-start b)
      ∙ part-cell b (plan_of b).value (2 * n) (2 * q) (omega arith)

  pub split-low : (q : ℕ) → q < pixels (settings_of b)
      → get_or (split_file b) ((plan_of b).value + pixels (settings_of b) + q) 0 ≡ get_or b ((plan_of b).value + 2 * q + 1) 0
  unfolding split_file split_plane
  split-low q h =
      let p = value_part b in
      let n = pixels (settings_of b) in
      let v = (plan_of b).value in
      let from : v + n + q ≡ v + (n + q) = omega arith in
      let to : v + (2 * q + 1) ≡ v + 2 * q + 1 = omega arith in
      let past : get_or (high_bytes p ++ low_bytes p) (n + q) 0 ≡ get_or (low_bytes p) q 0 =
      ap (λ (k : ℕ). get_or (high_bytes p ++ low_bytes p) (k + q) 0) (sym (high-long p n value-long)) ∙ get_or-append-add (high_bytes p) (low_bytes p) q 0 in
      ap (λ (k : ℕ). get_or (with_plane b (high_bytes p ++ low_bytes p)) k 0) from ∙ byte_inside _ parts-split (n + q) (omega arith) ∙ past
      ∙ low-at p q (omega (arith, value-long)) ∙ ap (λ (l : List ℕ). get_or l (2 * q + 1) 0) (value-start b)
      ∙ part-cell b v (2 * n) (2 * q + 1) (omega arith) ∙ ap (λ (k : ℕ). get_or b k 0) to

  pub split-before : (k : ℕ) → k < (plan_of b).value → get_or (split_file b) k 0 ≡ get_or b k 0
  unfolding split_file
  split-before = byte-before _ parts-split

  pub split-behind : (k : ℕ) → (plan_of b).value + 2 * pixels (settings_of b) ≤ k → get_or (split_file b) k 0 ≡ get_or b k 0
  unfolding split_file
  split-behind = byte-behind _ parts-split

-- ---- check 14

-- two runs of bytes overlap exactly if a byte is in both
pub overlap-common : (a m c n : ℕ) → (overlap a m c n ≡ true) ↔ ((k : ℕ) × (a ≤ k) × (k < a + m) × (c ≤ k) × (k < c + n))
unfolding overlap
overlap-common a m c n = (
  λ e. let h : max a c < min (a + m) (c + n) = ltb-true _ _ e in (max a c, omega arith, omega arith, omega arith, omega arith),
  λ r. lt-ltb (max a c) (min (a + m) (c + n)) (omega (arith, r.1, r.2, r.3, r.4)),
)

-- as code tests it: one run ends before the other begins, or it is empty, or neither
module _ (a m c n : ℕ) where
  pub ends-before : a + m ≤ c → false ≡ overlap a m c n
  unfolding overlap
  ends-before h = sym (le-ltb (max a c) (min (a + m) (c + n)) (omega arith))

  pub begins-behind : c + n ≤ a → false ≡ overlap a m c n
  unfolding overlap
  begins-behind h = sym (le-ltb (max a c) (min (a + m) (c + n)) (omega arith))

  pub first-empty : m ≡ 0 → false ≡ overlap a m c n
  unfolding overlap
  first-empty h = sym (le-ltb (max a c) (min (a + m) (c + n)) (omega arith))

  -- by the second's length where they meet and the first is not empty
  pub second-decides : c < a + m → a < c + n → 0 < m → not (eqb n 0) ≡ overlap a m c n
  unfolding overlap
  second-decides g h i = go (eqb n 0) refl
    where
      go : (d : Bool) → eqb n 0 ≡ d → not d ≡ ltb (max a c) (min (a + m) (c + n))
      go true e = let z : n ≡ 0 = eqb-true n 0 e in sym (le-ltb (max a c) (min (a + m) (c + n)) (omega arith))
      go false e = let z : n ≢ 0 = eqb-false n 0 e in sym (lt-ltb (max a c) (min (a + m) (c + n)) (omega arith))

-- ---- the outcomes

pub record SplitPassed (b : List ℕ) (room : ℕ) : Type 0 where
  pub trailer : trailer_outcome b ≡ accepted
  pub apart : bad_overlap (plan_of b) ≡ false
  pub levels : contents b (plan_of b) ≡ accepted
  pub space : length b ≤ room

pub split-passed : (b : List ℕ) (room : ℕ) → split_outcome b room ≡ accepted → SplitPassed b room
unfolding split_outcome
split-passed b room e =
    let w = refuse 14 (bad_overlap (plan_of b)) in
    let x = contents b (plan_of b) in
    let y = refuse 11 (ltb room (length b)) in
    let front = both-accepted (trailer_outcome b) (w ▷ x ▷ y) e in
    let next = both-accepted w (x ▷ y) front.1 in
    let last = both-accepted x y next.1 in
    record {
      trailer = front.0;
      apart = not-fired 14 _ next.0;
      levels = last.0;
      space = ltb-false _ _ (not-fired 11 _ last.1);
    }

pub join-passes : (b : List ℕ) (room : ℕ) → trailer_outcome b ≡ accepted → bad_overlap (plan_of b) ≡ false → length b ≤ room
    → join_outcome b room ≡ accepted
unfolding join_outcome
join-passes b room e f h = simp (e, f, le-ltb _ _ h)

-- where a file was split with no refusal, joining what it gave is not refused
pub split-joins : (b : List ℕ) (room other : ℕ) → split_outcome b room ≡ accepted → length b ≤ other → join_outcome (split_file b) other ≡ accepted
split-joins b room other e h =
    let p = split-passed b room e in
    join-passes (split_file b) other (file-split-outcome b p.trailer ∙ p.trailer) (ap bad_overlap (file-split-plan b p.trailer) ∙ p.apart)
    (subst (λ (n : ℕ). n ≤ other) (sym (file-split-long b p.trailer)) h)
