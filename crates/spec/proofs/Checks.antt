-- Laws of the checks: the first that fires, a scan's two ends, and what an accepted file has passed, check by check.
-- Assumes nothing.
use mathlib.Core.Path.{◌≡◌, refl, sym, ap, ap₂, ◌∙◌, subst}
use mathlib.Core.Bool.{Bool, true, false, true≢false, not, ◌&&◌, ◌||◌}
use mathlib.Core.Logic.{◌⊎◌, inl, inr}
use mathlib.Core.List.{List, [], ◌∷◌}
use Prim.Native.Nat.{ℕ, ◌+◌, ◌*◌, ◌≤◌, ◌<◌}
use native.Mathlib.Omega.{arith}
use lib.Dec.{leb, ltb, eqb}
use lib.ListN.{length}
use borrow.Author.Tests.{ltb-false, leb-false, le-leb, lt-leb, lt-ltb, le-ltb, eqb-true, eq-eqb, ne_eqb}
use Rattle.spec.specs.declared.Settings.{Settings}
use Rattle.spec.specs.declared.Trailer.{Trailer}
use Rattle.spec.specs.declared.Plan.{Plan}
use Rattle.std.specs.Prelude.{if◌then◌else◌}
use Rattle.spec.specs.Base.{first}
use Rattle.spec.specs.Refusal.{Outcome, accepted, refused, ◌▷◌, refuse}
use Rattle.spec.specs.Frame.{no_reading, trailer_at, settings_of, trailer_of, pixels, table_size, own_weights, plane, plan_of}
use Rattle.spec.specs.Checks.{
  outside,
  bad_mark,
  settings_outcome,
  bad_distance,
  scan,
  judged,
  scan_file,
  value_scan,
  guide_scan,
  contents,
  trailer_outcome,
  verdict,
}
use Rattle.spec.proofs.First.{First, first-is, first-unique}

-- ---- the first that fires
abbrev pub IsAccepted : Outcome → Type 0
IsAccepted accepted = Unit {0}
IsAccepted (refused n l) = ⊥

pub not-refused : {n : ℕ} {l : List ℕ} → refused n l ≡ accepted → ⊥
not-refused e = subst IsAccepted (sym e) tt

pub both-accepted : (u v : Outcome) → (u ▷ v) ≡ accepted → (u ≡ accepted) × (v ≡ accepted)
both-accepted accepted v e = (refl, e)
both-accepted (refused n l) v e = absurd (not-refused e)

pub not-fired : (n : ℕ) (b : Bool) → refuse n b ≡ accepted → b ≡ false
not-fired n true e = absurd (not-refused e)
not-fired n false e = refl

-- ---- tests that a check joins
pub neither : (a b : Bool) → (a || b) ≡ false → (a ≡ false) × (b ≡ false)
neither true b e = absurd (true≢false e)
neither false b e = (refl, e)

pub both : (a b : Bool) → (a && b) ≡ true → (a ≡ true) × (b ≡ true)
both true b e = (refl, e)
both false b e = absurd (true≢false (sym e))

pub inside : (low high n : ℕ) → outside low high n ≡ false → (low ≤ n) × (n ≤ high)
inside low high n e = let q = neither _ _ e in (ltb-false _ _ q.0, ltb-false _ _ q.1)

-- ---- a scan finds the first number that is too large, or none is
pub scan-found : (f : ℕ → ℕ) (n limit offset k : ℕ) → k < n → limit ≤ f k → ((j : ℕ) → j < k → f j < limit) →
    refused 7 ((offset + 2 * k) ∷ []) ≡ scan f n limit offset
unfolding scan
scan-found f n limit offset k h l before =
    let is : first (λ j. leb limit (f j)) n ≡ k
    =
    first-unique (λ j. leb limit (f j)) n k
    (record { within = omega arith; passes = λ _. le-leb _ _ l; before = λ j b. lt-leb _ _ (before j b) }) in
    simp (is, lt-ltb k n h)

pub scan-none : (f : ℕ → ℕ) (n limit offset : ℕ) → ((j : ℕ) → j < n → f j < limit) → accepted ≡ scan f n limit offset
unfolding scan
scan-none f n limit offset all =
    let is : first (λ j. leb limit (f j)) n ≡ n
    =
    first-unique (λ j. leb limit (f j)) n n
    (record { within = omega arith; passes = λ h. absurd (omega arith); before = λ j b. lt-leb _ _ (all j b) }) in
    simp (is, le-ltb n n (omega arith))

pub scan-accepted : (f : ℕ → ℕ) (n limit offset : ℕ) → scan f n limit offset ≡ accepted → (k : ℕ) → k < n → f k < limit
unfolding scan
scan-accepted f n limit offset e k h = go (ltb (first (λ j. leb limit (f j)) n) n) refl e
  where
    go : (b : Bool) → ltb (first (λ j. leb limit (f j)) n) n ≡ b
        → (if b then refused 7 ((offset + 2 * first (λ j. leb limit (f j)) n) ∷ []) else accepted) ≡ accepted → f k < limit
    go true d c = absurd (not-refused c)
    go false d c =
        let all : n ≤ first (λ j. leb limit (f j)) n = ltb-false _ _ d in
        leb-false _ _ ((first-is (λ j. leb limit (f j)) n).before k (omega arith))

-- ---- what is judged: a number itself, or 0 where a value says that there is no reading
pub judged-dead : (n : ℕ) → n ≡ no_reading → judged true n ≡ 0
judged-dead n e = rw (eq-eqb n no_reading e) refl

pub judged-same : (values : Bool) (n : ℕ) → (n ≡ no_reading → ⊥) → judged values n ≡ n
judged-same true n h = rw (ne_eqb n no_reading h) refl
judged-same false n h = refl

pub judged-below : (limit n : ℕ) → judged true n < limit → (n < limit) ⊎ (n ≡ no_reading)
judged-below limit n = go (eqb n no_reading) refl
  where
    go : (b : Bool) → eqb n no_reading ≡ b → (if b then 0 else n) < limit → (n < limit) ⊎ (n ≡ no_reading)
    go true e h = inr (eqb-true _ _ e)
    go false e h = inl h

-- ---- for readers: check 7 looks at the two planes and at nothing else, so no weight can be refused
scan-same : (f g : ℕ → ℕ) (n limit offset : ℕ) → ((j : ℕ) → j < n → f j ≡ g j) → scan f n limit offset ≡ scan g n limit offset
unfolding scan
scan-same f g n limit offset same =
    let q = first-is (λ j. leb limit (g j)) n in
    ap (λ (k : ℕ). if ltb k n then refused 7 ((offset + 2 * k) ∷ []) else accepted)
    (first-unique (λ j. leb limit (f j)) n (first (λ j. leb limit (g j)) n)
    (record {
      within = q.within;
      passes = λ h. ap (leb limit) (same _ h) ∙ q.passes h;
      before = λ j h. ap (leb limit) (same j (omega (arith, q.within))) ∙ q.before j h;
    }))

pub contents-planes : (b c : List ℕ) (plan : Plan) →
    ((q : ℕ) → q < plan.width * plan.height → plane b plan.value q ≡ plane c plan.value q) →
    ((q : ℕ) → q < plan.width * plan.height → plane b plan.guide q ≡ plane c plan.guide q) → contents b plan ≡ contents c plan
unfolding contents value_scan guide_scan scan_file
contents-planes b c plan values guides =
    ap₂ ◌▷◌ (scan-same _ _ _ _ _ (λ j h. ap (judged true) (values j h))) (scan-same _ _ _ _ _ guides)

-- ---- check 6: what it promises of a trailer that begins at an offset
pub record Near (at : ℕ) (t : Trailer) : Type 0 where
  pub value-long : 2 * pixels t.settings ≤ t.value
  pub value_in : t.value ≤ at
  pub guide-long : 2 * pixels t.settings ≤ t.guide
  pub guide-in : t.guide ≤ at
  pub table-long : 2 * own_weights t ≤ t.table
  pub table-in : t.table ≤ at

table-near : (at : ℕ) (t : Trailer) (b : Bool) → eqb t.table 0 ≡ b
    → (not b && (outside (2 * table_size t.settings) at t.table || eqb t.settings.kind 2)) ≡ false
    → (2 * own_weights t ≤ t.table) × (t.table ≤ at)
unfolding own_weights
table-near at t true e h = let z : t.table ≡ 0 = eqb-true _ _ e in rw e (omega arith, omega arith)
table-near at t false e h = rw e (inside _ _ _ (neither (outside (2 * table_size t.settings) at t.table) _ h).0)

pub near : (at : ℕ) (t : Trailer) → bad_distance at t ≡ false → Near at t
unfolding bad_distance
near at t e =
    let x = outside (2 * pixels t.settings) at t.value in
    let y = outside (2 * pixels t.settings) at t.guide in
    let z = not (eqb t.table 0) && (outside (2 * table_size t.settings) at t.table || eqb t.settings.kind 2) in
    let q = neither (x || y) z e in
    let planes = neither x y q.0 in
    let v = inside _ _ t.value planes.0 in
    let g = inside _ _ t.guide planes.1 in
    let a = table-near at t _ refl q.1 in
    record { value-long = v.0; value_in = v.1; guide-long = g.0; guide-in = g.1; table-long = a.0; table-in = a.1 }

-- ---- what a file has passed whose trailer and distances do; and an accepted file
pub record TrailerPassed (b : List ℕ) : Type 0 where
  pub long : 28 ≤ length b
  pub settings : settings_outcome (settings_of b) ≡ accepted
  pub near : Near (trailer_at b) (trailer_of b)

pub record FilePassed (b : List ℕ) : Type 0 where
  pub long : 28 ≤ length b
  pub settings : settings_outcome (settings_of b) ≡ accepted
  pub near : Near (trailer_at b) (trailer_of b)
  pub values : value_scan b (plan_of b) ≡ accepted
  pub guides : guide_scan b (plan_of b) ≡ accepted

pub mark-long : (b : List ℕ) → bad_mark b ≡ false → 28 ≤ length b
unfolding bad_mark
mark-long b e = ltb-false _ _ (neither _ _ e).0

pub trailer-passed : (b : List ℕ) → trailer_outcome b ≡ accepted → TrailerPassed b
unfolding trailer_outcome
trailer-passed b e =
    let m = refuse 1 (bad_mark b) in
    let s = settings_outcome (settings_of b) in
    let d = refuse 6 (bad_distance (trailer_at b) (trailer_of b)) in
    let marked = both-accepted m (s ▷ d) e in
    let set = both-accepted s d marked.1 in
    record { long = mark-long b (not-fired 1 _ marked.0); settings = set.0; near = near _ _ (not-fired 6 _ set.1) }

pub passed : (b : List ℕ) → verdict b ≡ accepted → FilePassed b
unfolding verdict contents
passed b e =
    let x = value_scan b (plan_of b) in
    let y = guide_scan b (plan_of b) in
    let front = both-accepted (trailer_outcome b) (x ▷ y) e in
    let t = trailer-passed b front.0 in
    let planes = both-accepted x y front.1 in
    record { long = t.long; settings = t.settings; near = t.near; values = planes.0; guides = planes.1 }
