-- Stores over several calls, one byte of a walk, and what holds in any loop of such bytes, over plain values.
-- Assumes nothing.
use Prim.Native.Nat.{ℕ, suc, ◌+◌, ◌-◌, ◌≤◌, ◌<◌}
use mathlib.Core.Path.{◌≡◌, refl, ap, sym, ◌∙◌, subst}
use mathlib.Core.Bool.{Bool, true, false, true≢false}
use mathlib.Core.Logic.{◌⊎◌, inl, inr}
use mathlib.Core.List.{List, [], ◌∷◌, ◌++◌, append_assoc}
use native.Mathlib.Omega.{arith}
use native.Mathlib.Numerals.{add-one}
use lib.ListN.{length, get_or, take, drop, set, length-set, replicate, length-replicate, get_or-replicate}
use lib.Seq.{take-suc, take-length, drop-cons, set_at, drop-set-lt}
use lib.IntN.{ℤ}
use lib.Dec.{ltb, eqb}
use borrow.Author.Tests.{ltb-true}
use Rattle.spec.specs.declared.Settings.{Settings}
use Rattle.spec.specs.declared.Plan.{Plan}
use Rattle.spec.specs.declared.Way.{Way}
use Rattle.spec.specs.declared.Way.TheVariants.{Joint, Columns, Chain, Coarse}
use Rattle.spec.specs.declared.Move.TheVariants.{To, Nowhere}
use Rattle.std.specs.Prelude.{if◌then◌else◌}
use Rattle.spec.specs.Frame.{Frame, frame_of, frame_with, settings_in}
use Rattle.spec.specs.Checks.{Pictured, SettingsLimits}
use Rattle.spec.specs.Coarse.{block_count, summary}
use Rattle.spec.specs.Walk.{State, by_blocks, arrive, to_if, move, step, after, answers, start}
use Rattle.spec.specs.Calls.{room_of, box_of, summary_of, zeros}
use Rattle.spec.proofs.Plans.{facts, pixel-of}
use Rattle.spec.proofs.Steps.{after_one}
use Rattle.spec.proofs.Walks.{StateBounded, bounded-start, bounded-step, step-to, step-nowhere}
use Rattle.histogram.specs.Histogram.{Blank}
use Rattle.window.specs.Line.{Adjacent, right, left, down, up}
use Rattle.visit.specs.declared.Visit.{Visit}
use Rattle.visit.specs.Visit.{state_of, Within}
use Rattle.ways.specs.Visit.{Stores, StoresFit, KeptBeyond, RestKept, Serves, own_box, AtWindow, Visited}
use Rattle.ways.proofs.WayLaws.{settings-same, beyond-same}
use Rattle.ice_step.specs.declared.Walked.{Walked}
use Rattle.ice_step.specs.Finished.{EndMade, HandedBack, Finished}

-- ---- the plan's settings are within document 01's limits
pub settings-limits-in : {b vs : List ℕ} {z : Plan} → Pictured b vs z → SettingsLimits (settings_in z)
settings-limits-in k = subst SettingsLimits (sym (settings-same k)) (facts k).limits.sound

-- ---- a new histogram has two numbers for each level of any plan, all 0
pub histogram-blank : {b vs : List ℕ} {z : Plan} → Pictured b vs z → Blank z.levels (replicate 2048 0)
histogram-blank {z = z} k =
    let f = facts k in
    let l : z.levels ≤ 1024 = omega (arith, f.levels, f.limits.sound.levels_high) in
    record { long = omega (arith, l, length-replicate {A = ℕ} 2048 0); zeros = λ i h. get_or-replicate 2048 i 0 0 (omega arith) }

-- ---- stores over several calls
pub beyond-trans : (n : ℕ) (a b c : List ℕ) → KeptBeyond n a b → KeptBeyond n b c → KeptBeyond n a c
beyond-trans n a b c x y = record { long = y.long ∙ x.long; beyond = y.beyond ∙ x.beyond }

pub beyond-set : (a : List ℕ) (i n x : ℕ) → i < n → KeptBeyond n a (set a i x)
beyond-set a i n x h = record { long = length-set a i x; beyond = drop-set-lt n a i x h }

pub kept_same : (way : Way) (k : Settings) (z : Stores) → RestKept way k z z
kept_same way k z = record { counts = beyond-same _ _; words = beyond-same _ _; numbers = beyond-same _ _ }

pub kept_trans : (way : Way) (k : Settings) (a b c : Stores) → RestKept way k a b → RestKept way k b c → RestKept way k a c
kept_trans way k a b c x y =
    record {
      counts = beyond-trans _ _ _ _ x.counts y.counts;
      words = beyond-trans _ _ _ _ x.words y.words;
      numbers = beyond-trans _ _ _ _ x.numbers y.numbers;
    }

pub fit-kept : (way : Way) (k : Settings) (a z : Stores) → StoresFit way k a → RestKept way k a z → StoresFit way k z
fit-kept way k a z f h =
    record {
      counts = omega (arith, f.counts, h.counts.long);
      words = omega (arith, f.words, h.words.long);
      numbers = omega (arith, f.numbers, h.numbers.long);
    }

-- ---- where a byte leads: to a neighbour
to_is : (b : Bool) (x y s t : ℕ) → to_if b x y ≡ To s t → (b ≡ true) × (s ≡ x) × (t ≡ y)
to_is true x y s t e = (refl, cc, cc)
to_is false x y s t e = let z : ◌≡◌ {A = ℕ} 0 1 = cc in absurd (omega arith)

pub move-adjacent : (z : Plan) (s t b s' t' : ℕ) → s < z.width → t < z.height → move (settings_in z) s t b ≡ To s' t' → Adjacent z s t s' t'
unfolding move
move-adjacent z s t b s' t' hs ht = by (eqb b 0) (eqb b 1) (eqb b 2) (eqb b 3)
  where
    by : (b0 b1 b2 b3 : Bool)
        → (if b0 then to_if (ltb (s + 1) z.width) (s + 1) t else if b1 then to_if (ltb 0 s) (s - 1) t
        else if b2 then to_if (ltb (t + 1) z.height) s (t + 1) else if b3 then to_if (ltb 0 t) s (t - 1) else Nowhere 65533) ≡ To s' t'
        → Adjacent z s t s' t'
    by true b1 b2 b3 e = let q =
        to_is (ltb (s + 1) z.width) (s + 1) t s' t' e in right q.1 q.2 (omega (arith, q.1, ltb-true (s + 1) z.width q.0)) ht
    by false true b2 b3 e = let q = to_is (ltb 0 s) (s - 1) t s' t' e in left (omega (arith, q.1, ltb-true 0 s q.0)) q.2 hs ht
    by false false true b3 e = let q =
        to_is (ltb (t + 1) z.height) s (t + 1) s' t' e in down q.1 q.2 hs (omega (arith, q.2, ltb-true (t + 1) z.height q.0))
    by false false false true e = let q = to_is (ltb 0 t) s (t - 1) s' t' e in up q.1 (omega (arith, q.2, ltb-true 0 t q.0)) hs ht
    by false false false false e = let q : ◌≡◌ {A = ℕ} 0 1 = cc in absurd (omega arith)

-- ---- one byte, from a visit x: it moves, or it stays
module _ (way : Way) {b vs : List ℕ} {z : Plan} (k : Pictured b vs z) (x : Visit) (byte : ℕ) (hs : List ℕ) (d : List ℤ) (v : Visit) where
  pub visited-moves : (a s : Stores) (column row : ℕ) → move (settings_in z) x.column x.row byte ≡ To column row
      → Visited way b vs (arrive way (frame_with b vs) column row x.cut.0 x.shifts) a s hs d v
      → Visited way b vs (step (frame_with b vs) (state_of way x) byte) a s hs d v
  visited-moves a s column row e h =
      let m : move (frame_of b).set x.column x.row byte ≡ To column row = rw (settings-same k) at e in
      subst (λ (y : State). Visited way b vs y a s hs d v) (sym (step-to (frame_with b vs) (state_of way x) byte column row m)) h

  pub visited-stays : (s : Stores) (mark : ℕ) → move (settings_in z) x.column x.row byte ≡ Nowhere mark → AtWindow way b vs s hs d v
      → state_of way v ≡ record { way = way; column = x.column; row = x.row; cut = x.cut.0; shifts = x.shifts; answer = mark }
      → Visited way b vs (step (frame_with b vs) (state_of way x) byte) s s hs d v
  visited-stays s mark e h q =
      let m : move (frame_of b).set x.column x.row byte ≡ Nowhere mark = rw (settings-same k) at e in
      record { state = q ∙ sym (step-nowhere (frame_with b vs) (state_of way x) byte mark m); here = h; kept = kept_same way (frame_of b).set s }

-- ---- a walk's state is within the plan
pub within_of : (way : Way) {b vs : List ℕ} {z : Plan} → Pictured b vs z → (v : Visit) (n : ℕ)
    → StateBounded (frame_with b vs) (state_of way v) n → n ≤ 1048577 → Within z v
within_of way k v n h l =
    let f = facts k in
    record {
      column = rw f.width h.in-column;
      row = rw f.height h.in-row;
      cut = rw f.levels h.cut_low;
      shifts = omega (arith, h.shifts-low);
    }

-- ---- the first state of a walk that an accepted file makes
pub held_first : (way : Way) {b vs : List ℕ} {z : Plan} → Pictured b vs z → (s t : ℕ) (v : Visit) → s < z.width → t < z.height
    → state_of way v ≡ start way (frame_with b vs) s t → StateBounded (frame_with b vs) (state_of way v) 1
held_first way {b} {vs} k s t v hs ht e = subst (λ (q : State). StateBounded (frame_with b vs) q 1) (sym e) (bounded-start (pixel-of k hs ht) way)

-- ---- the end of a loop: the summary and the box, by the rule that the way counts by
module _ (p : Frame) (s t : ℕ) (box before after box' : List ℤ) where
  pub made-blocks : (way : Way) → by_blocks way ≡ true → box' ≡ zeros → after ≡ summary p s t ++ drop (block_count p.set) before
      → EndMade way p s t box before after box'
  unfolding room_of summary_of
  made-blocks Joint e q m = absurd (true≢false (sym e))
  made-blocks Columns e q m = absurd (true≢false (sym e))
  made-blocks Chain e q m = absurd (true≢false (sym e))
  made-blocks Coarse e q m = record { blocks = λ _. (q, m); levels = λ d. absurd (true≢false d) }

  pub made-levels : (way : Way) → by_blocks way ≡ false → box' ≡ box → after ≡ before → EndMade way p s t box before after box'
  made-levels way e q m = record { blocks = λ d. absurd (true≢false (sym d ∙ e)); levels = λ _. (q, m) }

-- what the last call leaves is what is handed back; a plane in place of the file's values is for way 1, which has no summary
pub handed_back : (way : Way) {b vs : List ℕ} {z : Plan} → Pictured b vs z → Serves way z vs → (x : State) {box before made box' : List ℤ}
    → box ≡ own_box way (frame_with b vs) x.column x.row x.cut → EndMade way (frame_of b) x.column x.row box before made box'
    → HandedBack way (frame_with b vs) x before made box'
unfolding room_of box_of summary_of own_box
handed_back Joint k s x e m = record { balance-box = (m.levels refl).0 ∙ e; summary = (m.levels refl).1 }
handed_back Columns k s x e m = record { balance-box = (m.levels refl).0 ∙ e; summary = (m.levels refl).1 }
handed_back Chain k s x e m = record { balance-box = (m.levels refl).0 ∙ e; summary = (m.levels refl).1 }
handed_back Coarse {b} {vs} {z} k s x {before = before} {made} {box'} e m =
    subst (λ (u : List ℕ). HandedBack Coarse (frame_with b u) x before made box') (sym (none s.1))
    (record { balance-box = (m.blocks refl).0; summary = (m.blocks refl).1 })
  where
    none : (vs ≡ []) ⊎ ((Coarse ≡ Joint) × (z.kind ≡ 1)) → vs ≡ []
    none (inl q) = q
    none (inr q) = absurd (true≢false (ap by_blocks q.0))

-- the room that the summary needs
pub blocks-fit : (way : Way) → by_blocks way ≡ true → {b vs : List ℕ} {z : Plan} → Pictured b vs z → (n : ℕ) → (room_of way (settings_in z)).summary ≤ n
    → block_count (frame_of b).set ≤ n
unfolding room_of
blocks-fit Joint e k n h = absurd (true≢false (sym e))
blocks-fit Columns e k n h = absurd (true≢false (sym e))
blocks-fit Chain e k n h = absurd (true≢false (sym e))
blocks-fit Coarse e k n h = subst (λ (q : Settings). block_count q ≤ n) (settings-same k) h

-- what a visit leaves, and the end made of it
pub finished : {way : Way} {b vs : List ℕ} {x : State} {a z : Stores} {hs : List ℕ} {d s s' : List ℤ} (v : Visit) (r : Walked)
    → r.shifts ≡ v.shifts → r.cut.0 ≡ v.cut.0
    → Visited way b vs x a z hs d v → HandedBack way (frame_with b vs) (state_of way v) s s' r.balance_box
    → Finished way (frame_with b vs) x (record { stores = a; summary = s }) (record { stores = z; summary = s' }) r
finished {way} {b} {vs} {x} {a} {z} {hs} {d} {s} {s'} v r shifts cut h back =
    subst (λ (w : State). Finished way (frame_with b vs) w (record { stores = a; summary = s }) (record { stores = z; summary = s' }) r) h.state
    (record {
      closed = record { shifts = shifts; cut = cut; handed_back = back };
      holds = h.here.holds;
      kept = h.kept;
    })

-- ---- a list with one more byte
pub answers_one : (p : Frame) (x : State) (bs : List ℕ) (b : ℕ) →
    answers p x (bs ++ (b ∷ [])) ≡ answers p x bs ++ ((step p (after p x bs) b).answer ∷ [])
unfolding after answers
answers_one p x [] b = refl
answers_one p x (c ∷ bs) b = ap (λ (l : List ℕ). x.answer ∷ l) (answers_one p (step p x c) bs b)

-- the answer buffer, one answer on
pub told_more : (front A A₀ : List ℕ) (i a : ℕ) → length front ≡ i + 1 → i + 1 < length A₀ → A ≡ front ++ drop (i + 1) A₀
    → set A (i + 1) a ≡ (front ++ (a ∷ [])) ++ drop (i + 1 + 1) A₀
told_more front A A₀ i a n l e =
    let d : drop (i + 1) A₀ ≡ get_or A₀ (i + 1) 0 ∷ drop (suc (i + 1)) A₀ = drop-cons A₀ (i + 1) 0 l in
    let m : suc (i + 1) ≡ i + 1 + 1 = omega arith in
    ap (λ (q : List ℕ). set q (i + 1) a) (e ∙ ap (λ (q : List ℕ). front ++ q) d)
    ∙ set_at front (get_or A₀ (i + 1) 0) (drop (suc (i + 1)) A₀) a (i + 1) n
    ∙ ap (λ (q : ℕ). front ++ (a ∷ drop q A₀)) m ∙ sym (append_assoc front (a ∷ []) (drop (i + 1 + 1) A₀))

-- ---- what holds in any loop of steps: i bytes of the list ms are done, from the state x; a are the stores where the loop begins
pub record Going (way : Way) (b vs : List ℕ) (ms : List ℕ) (x : State) (a z : Stores) (hs : List ℕ) (d : List ℤ) (v : Visit) (i : ℕ) : Type 0 where
  pub most : i ≤ length ms
  pub visited : Visited way b vs (after (frame_with b vs) x (take i ms)) a z hs d v
  pub held : StateBounded (frame_with b vs) (state_of way v) (1 + i)

module _ (way : Way) (b vs ms : List ℕ) where
  pub going_start : (z : Stores) (hs : List ℕ) (d : List ℤ) (v : Visit) → AtWindow way b vs z hs d v
      → StateBounded (frame_with b vs) (state_of way v) 1 →
      Going way b vs ms (state_of way v) z z hs d v 0
  unfolding after
  going_start z hs d v h on =
      record { most = omega arith; visited = record { state = refl; here = h; kept = kept_same way (frame_of b).set z }; held = on }

  pub going_more : (x : State) (a z : Stores) (hs : List ℕ) (d : List ℤ) (v : Visit) (i : ℕ) → Going way b vs ms x a z hs d v i → i < length ms →
      (byte : ℕ) → byte ≡ get_or ms i 0
      → (z' : Stores) (hs' : List ℕ) (d' : List ℤ) (v' : Visit) → Visited way b vs (step (frame_with b vs) (state_of way v) byte) z z' hs' d' v' →
      Going way b vs ms x a z' hs' d' v' (i + 1)
  going_more x a z hs d v i w l byte eb z' hs' d' v' h =
      let p = frame_with b vs in
      let e : after p x (take (i + 1) ms) ≡ step p (state_of way v) byte =
      rw (eb, add-one i, take-suc ms i 0 l)
      (after_one p x (take i ms) (get_or ms i 0) ∙ ap (λ (q : State). step p q (get_or ms i 0)) (sym w.visited.state)) in
      let j : suc (1 + i) ≡ 1 + (i + 1) = omega arith in
      record {
        most = omega arith;
        visited = rw e (record { state = h.state; here = h.here; kept = kept_trans way _ a z z' w.visited.kept h.kept });
        held = subst (λ (n : ℕ). StateBounded p (state_of way v') n) j
            (subst (λ (q : State). StateBounded p q (suc (1 + i))) (sym h.state) (bounded-step w.held byte));
      }

  pub going_end : (x y : State) (a₀ a z : Stores) (hs : List ℕ) (d : List ℤ) (v : Visit) (i : ℕ) → Going way b vs ms y a z hs d v i → length ms ≤ i →
      y ≡ x
      → RestKept way (frame_of b).set a₀ a → Visited way b vs (after (frame_with b vs) x ms) a₀ z hs d v
  going_end x y a₀ a z hs d v i w l e kept =
      let j : i ≡ length ms = omega (arith, w.most) in
      let all : take i ms ≡ ms = ap (λ (n : ℕ). take n ms) j ∙ take-length ms in
      let s : after (frame_with b vs) y (take i ms) ≡ after (frame_with b vs) x ms = cc in
      let h : Visited way b vs (after (frame_with b vs) x ms) a z hs d v = rw s at w.visited in
      record { state = h.state; here = h.here; kept = kept_trans way _ a₀ a z kept h.kept }

-- what a turn's call asks: room is kept
pub fit-going : (way : Way) {b vs : List ℕ} {z : Plan} → Pictured b vs z → (a₀ a s : Stores) → StoresFit way (settings_in z) a₀ →
    RestKept way (frame_of b).set a₀ a
    → RestKept way (frame_of b).set a s → StoresFit way (settings_in z) s
fit-going way {b} {z = z} k a₀ a s h x y = let e =
    sym (settings-same k) in fit-kept way (settings_in z) a₀ s h (rw e at (kept_trans way (frame_of b).set a₀ a s x y))
