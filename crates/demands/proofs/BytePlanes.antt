-- Request 8, and demand 1 of its two calls, proved from their contracts and the laws of byte planes; specs/Demands.antt has the statements.
-- Assumes nothing.
use mathlib.Core.Path.{◌≡◌, refl, sym, ap, ◌∙◌, subst}
use mathlib.Core.Bool.{Bool, true, false, true≢false, ◌||◌}
use mathlib.Core.Logic.{◌⊎◌, inl, inr}
use mathlib.Core.List.{List, ◌++◌}
use Prim.Native.Nat.{ℕ, ◌+◌, ◌-◌, ◌*◌, ◌<◌}
use native.Mathlib.Omega.{arith}
use lib.ListN.{length, get_or, take, drop, length-append, length-drop, get_or-append}
use lib.Seq.{take_at, get_or-append-add, get_or-drop}
use Rattle.std.specs.Prelude.{Result, Ok, Err}
use Rattle.spec.specs.declared.Refusal.{Refusal}
use Rattle.spec.specs.Refusal.{Outcome, accepted, refused, numbered, number, values_of}
use Rattle.spec.specs.Frame.{pixels, settings_of, plan_of}
use Rattle.spec.specs.Checks.{trailer_outcome}
use Rattle.spec.specs.Writer.{stored}
use Rattle.spec.specs.BytePlanes.{split_file, joined_file, overlap, bad_overlap, split_outcome, join_outcome}
use Rattle.spec.proofs.Checks.{not-refused, both-accepted}
use Rattle.spec.proofs.BytePlanes.{
  value-within,
  file-split-long,
  file-joined-long,
  restored,
  split-high,
  split-low,
  split-before,
  split-behind,
  overlap-common,
  split-passed,
  split-joins,
}
use Rattle.byte_planes.specs.Contract.{Joins}
use Rattle.demands.specs.Demands.{SplitOrRefused, JoinedOrRefused, EveryByte, Restored, In, SharedByte, Request8}

-- ---- an accepted call that gives no value, and the output that an outcome leads to
accepts-ok : (r : Result (Unit {0}) Refusal) → numbered r ≡ accepted → r ≡ Ok tt
accepts-ok (Ok x) e = refl
accepts-ok (Err r) e = absurd (not-refused e)

join-trailer : (b : List ℕ) (room : ℕ) → join_outcome b room ≡ accepted → trailer_outcome b ≡ accepted
unfolding join_outcome
join-trailer b room e = (both-accepted (trailer_outcome b) _ e).0

-- what an accepted call leaves: its new bytes, and what lay beyond so many
left : {o : Outcome} (new old : List ℕ) {n : ℕ} {out : List ℕ} → o ≡ accepted → out ≡ stored o new old → length new ≡ n → out ≡ new ++ drop n old
left new old e f h = f ∙ ap (λ (x : Outcome). stored x new old) e ∙ ap (λ (k : ℕ). new ++ drop k old) h

-- ---- demand 1
pub split-or-refused : SplitOrRefused
split-or-refused b old (Ok x) new h =
    let e = sym h.verdict in
    inl (refl, e, left (split_file b) old e h.output (file-split-long b (split-passed b (length old) e).trailer))
split-or-refused b old (Err r) new h =
    inr (number r, values_of r, refl, sym h.verdict, h.output ∙ ap (λ (x : Outcome). stored x (split_file b) old) (sym h.verdict))

pub joined-or-refused : JoinedOrRefused
joined-or-refused b old (Ok x) new h =
    let e = sym h.verdict in
    inl (refl, e, left (joined_file b) old e h.output (file-joined-long b (join-trailer b (length old) e)))
joined-or-refused b old (Err r) new h =
    inr (number r, values_of r, refl, sym h.verdict, h.output ∙ ap (λ (x : Outcome). stored x (joined_file b) old) (sym h.verdict))

-- ---- every byte
every_byte : EveryByte
every_byte b old new h =
    let o : split_outcome b (length old) ≡ accepted = sym h.verdict in
    let p = split-passed b (length old) o in
    let ok = p.trailer in
    let v = (plan_of b).value in
    let n = pixels (settings_of b) in
    let long = file-split-long b ok in
    let is : new ≡ split_file b ++ drop (length b) old = left (split_file b) old o h.output long in
    let inside : (k : ℕ) → k < length b → get_or new k 0 ≡ get_or (split_file b) k 0 =
    λ k l. ap (λ (x : List ℕ). get_or x k 0) is ∙ get_or-append (split_file b) (drop (length b) old) 0 k (omega (arith, long)) in
    let within = value-within b ok in
    record {
      high = λ q l. inside (v + q) (omega (arith, within)) ∙ split-high b ok q l;
      low = λ q l. inside (v + n + q) (omega (arith, within)) ∙ split-low b ok q l;
      before = λ k l. inside k (omega (arith, within)) ∙ split-before b ok k l;
      behind = λ k l u. inside k u ∙ split-behind b ok k l;
      beyond = λ k l.
          let at : length (split_file b) + (k - length b) ≡ k = omega (arith, long) in
          let on : length b + (k - length b) ≡ k = omega arith in
          ap (λ (x : List ℕ). get_or x k 0) is ∙ ap (λ (j : ℕ). get_or (split_file b ++ drop (length b) old) j 0) (sym at)
          ∙ get_or-append-add (split_file b) (drop (length b) old) (k - length b) 0 ∙ get_or-drop (length b) old (k - length b) 0
          ∙ ap (λ (j : ℕ). get_or old j 0) on;
      long =
          ap length is ∙ omega (arith, length-append (split_file b) (drop (length b) old), length-drop (length b) old, long, p.space);
    }

-- ---- joined again
call-restores : Restored
call-restores b old old' r' new new' h room j =
    let o : split_outcome b (length old) ≡ accepted = sym h.verdict in
    let ok = (split-passed b (length old) o).trailer in
    let long = file-split-long b ok in
    let c = split_file b in
    let given : take (length b) new ≡ c =
    ap (take (length b)) (left c old o h.output long) ∙ take_at c (drop (length b) old) (length b) long in
    let k : Joins c old' r' new' = subst (λ (l : List ℕ). Joins l old' r' new') given j in
    let o' : join_outcome c (length old') ≡ accepted = split-joins b (length old) (length old') o room in
    let is : new' ≡ b ++ drop (length b) old' =
    left b old' o' (k.output ∙ ap (λ (l : List ℕ). stored (join_outcome c (length old')) l old') (restored b ok)) refl in
    (accepts-ok r' (k.verdict ∙ o'), ap (take (length b)) is ∙ take_at b (drop (length b) old') (length b) refl)

-- ---- check 14
shared-byte : SharedByte
unfolding bad_overlap
shared-byte plan = (λ e. to (overlap v n plan.guide n) (overlap v n plan.table m) refl refl e, from)
  where
    v : ℕ
    v = plan.value

    n : ℕ
    n = 2 * (plan.width * plan.height)

    m : ℕ
    m = 2 * plan.weights

    to : (x y : Bool) → overlap v n plan.guide n ≡ x → overlap v n plan.table m ≡ y → (x || y) ≡ true
        → (k : ℕ) × In v n k × (In plan.guide n k ⊎ In plan.table m k)
    to true y g t e = let c = (overlap-common v n plan.guide n).0 g in (c.0, (c.1, c.2), inl (c.3, c.4))
    to false true g t e = let c = (overlap-common v n plan.table m).0 t in (c.0, (c.1, c.2), inr (c.3, c.4))
    to false false g t e = absurd (true≢false (sym e))

    either : (x y : Bool) → y ≡ true → (x || y) ≡ true
    either true y e = refl
    either false y e = e

    from : ((k : ℕ) × In v n k × (In plan.guide n k ⊎ In plan.table m k)) → (overlap v n plan.guide n || overlap v n plan.table m) ≡ true
    from (k, i, inl g) = ap (λ (x : Bool). x || overlap v n plan.table m) ((overlap-common v n plan.guide n).1 (k, i.0, i.1, g.0, g.1))
    from (k, i, inr t) =
        either (overlap v n plan.guide n) (overlap v n plan.table m) ((overlap-common v n plan.table m).1 (k, i.0, i.1, t.0, t.1))

pub request-8 : Request8
request-8 = record { bytes = every_byte; restored = call-restores; overlap = shared-byte }
