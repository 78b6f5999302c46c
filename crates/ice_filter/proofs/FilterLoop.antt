-- The filter's loop: its invariant and what a turn does to it, over plain values.
-- Assumes nothing.
use Prim.Native.Nat.{ℕ, zero, suc, ◌+◌, ◌-◌, ◌*◌, ◌/◌, ◌%◌, ◌≤◌, ◌<◌}
use mathlib.Core.Path.{◌≡◌, refl, ap, ap₂, sym, ◌∙◌, subst}
use mathlib.Core.Bool.{Bool, true, false}
use mathlib.Core.List.{List, [], ◌∷◌, ◌++◌}
use native.Mathlib.Omega.{arith}
use native.Mathlib.Nat.{mul-pos}
use lib.ListN.{length, get_or, take, drop, set, length-take, take-append-drop}
use lib.Seq.{get_or-set_same, get_or-set_other, drop-set-lt, get_or-take, ext_get_or}
use lib.IntN.{ℤ}
use lib.Dec.{eqb}
use borrow.Author.Tests.{eqb-true, eqb-false}
use Rattle.spec.specs.declared.Settings.{Settings}
use Rattle.spec.specs.declared.Plan.{Plan}
use Rattle.spec.specs.declared.Way.{Way}
use Rattle.spec.specs.Base.{tabulate}
use Rattle.spec.specs.Frame.{Frame, pixels, frame_of, frame_with}
use Rattle.spec.specs.Median.{answer}
use Rattle.spec.specs.Walk.{State, answer_number, arrive, start, step, after, walk_end}
use Rattle.spec.specs.Filter.{turn, serpentine, filtered, filter_end}
use Rattle.spec.proofs.First.{length-tabulate, get_d_tabulate}
use Rattle.spec.specs.Checks.{Pictured, SettingsLimits}
use Rattle.spec.proofs.Limits.{FrameLimits}
use Rattle.spec.proofs.Plans.{Facts, facts}
use Rattle.spec.proofs.Walks.{StateBounded}
use Rattle.spec.proofs.Serpentine.{
  At,
  at-arrive,
  at_turn,
  column_after,
  visited,
  visited-is,
  visited-div,
  visited-mod,
  visited-twice,
  visited-low,
  serpentine-length,
  serpentine-byte,
  serpentine-begins,
}
use Rattle.visit.specs.declared.Visit.{Visit}
use Rattle.visit.specs.Visit.{state_of}
use Rattle.ways.specs.Visit.{Stores, KeptBeyond, RestKept, AtWindow, Visited}
use Rattle.ways.proofs.WayLaws.{beyond-same}
use Rattle.ice_step.proofs.Laws.{held_first, beyond-trans, beyond-set, Going, going_start, going_more, going_end}

-- ---- the plane, pixel by pixel, when i moves are done
unfoldable pub Plane : Frame → List ℕ → ℕ → Type 0
Plane p O i = (q : ℕ) → q < pixels p.set → visited p.set.width q ≤ i → get_or O q 0 ≡ answer p (q % p.set.width) (q / p.set.width)

module _ (p : Frame) (g : FrameLimits p) (O : List ℕ) (long : pixels p.set ≤ length O) where
  abbrev w : ℕ
  w = p.set.width

  -- the answer of the pixel after i moves goes to its place
  pub plane-set : (i a : ℕ) → i < pixels p.set → a ≡ answer p (column_after w i) (i / w)
      → ((q : ℕ) → q < pixels p.set → (visited w q ≡ i → ⊥) → visited w q ≤ i → get_or O q 0 ≡ answer p (q % w) (q / w))
      → Plane p (set O (visited w i) a) i
  unfolding Plane
  plane-set i a hi ea old q hq l = by (eqb (visited w q) i) refl
    where
      by : (b : Bool) → eqb (visited w q) i ≡ b → get_or (set O (visited w i) a) q 0 ≡ answer p (q % w) (q / w)
      by true e =
          let f : visited w q ≡ i = eqb-true (visited w q) i e in
          let h : q ≡ visited w i = sym (visited-twice w g.sound.width_low q) ∙ ap (visited w) f in
          rw h
          (get_or-set_same O (visited w i) a 0 (omega (arith, visited-low p.set g.sound.width_low i hi))
          ∙ ea ∙ sym (ap₂ (answer p) (visited-mod w g.sound.width_low i) (visited-div w g.sound.width_low i)))
      by false e =
          let n : visited w q ≡ i → ⊥ = eqb-false (visited w q) i e in
          get_or-set_other O (visited w i) q a 0 (λ h. n (ap (visited w) h ∙ visited-twice w g.sound.width_low i)) ∙ old q hq n l

  pub plane-first : (a : ℕ) → 0 < pixels p.set → a ≡ answer p (column_after w 0) (0 / w) → Plane p (set O (visited w 0) a) 0
  plane-first a h ea = plane-set 0 a h ea (λ q hq n l. absurd (n (omega arith)))

  pub plane-more : (i a : ℕ) → i + 1 < pixels p.set → a ≡ answer p (column_after w (i + 1)) ((i + 1) / w) → Plane p O i →
      Plane p (set O (visited w (i + 1)) a) (i + 1)
  unfolding Plane
  plane-more i a h ea old = plane-set (i + 1) a h ea (λ q hq n l. old q hq (omega (arith, n)))

  pub plane-all : (i : ℕ) → pixels p.set ≤ i + 1 → Plane p O i → (O₀ : List ℕ) → drop (pixels p.set) O ≡ drop (pixels p.set) O₀
      → O ≡ filtered p ++ drop (pixels p.set) O₀
  unfolding Plane filtered
  plane-all i h old O₀ e =
      let n = pixels p.set in
      let f : ℕ → ℕ = λ q. answer p (q % w) (q / w) in
      let t : take n O ≡ tabulate n f =
      ext_get_or 0 (take n O) (tabulate n f) (omega (arith, length-take n O, length-tabulate n f))
      (λ q l. let lq : q < n = omega (arith, length-take n O) in
      get_or-take n O q 0 lq ∙ old q lq (omega (arith, visited-low p.set g.sound.width_low q lq)) ∙ sym (get_d_tabulate n f q 0 lq)) in
      sym (take-append-drop n O) ∙ cc

-- ---- the invariant: i moves are done; O₀ is the output where the loop begins
pub record Sweeping (way : Way) (b vs : List ℕ) (x : State) (a : Stores) (O₀ : List ℕ) (z : Stores) (O hs : List ℕ) (d : List ℤ) (v : Visit) (i : ℕ) :
    Type 0 where
  pub going : Going way b vs (serpentine (frame_of b).set) x a z hs d v i
  pub at : At (frame_with b vs) (state_of way v) (column_after (frame_of b).set.width i) (i / (frame_of b).set.width)
  pub plane : Plane (frame_with b vs) O i
  pub rest : KeptBeyond (pixels (frame_of b).set) O₀ O
  pub inside : i < pixels (frame_of b).set

module _ (way : Way) (b vs : List ℕ) (g : FrameLimits (frame_with b vs)) where
  abbrev p : Frame
  p = frame_with b vs

  pub pixels-some : 0 < pixels p.set
  pixels-some = mul-pos g.sound.width_low g.sound.height_low

  -- where a turn's step goes, and the place of its answer
  pub sweep-goes : (x : State) (a : Stores) (O₀ : List ℕ) (z : Stores) (O hs : List ℕ) (d : List ℤ) (v : Visit) (i : ℕ) →
      Sweeping way b vs x a O₀ z O hs d v i
      → i + 1 < pixels p.set → (byte : ℕ) → byte ≡ turn p.set.width i → (z' : Stores) (hs' : List ℕ) (d' : List ℤ) (v' : Visit)
      → Visited way b vs (step p (state_of way v) byte) z z' hs' d' v'
      → At p (state_of way v') (column_after p.set.width (i + 1)) ((i + 1) / p.set.width)
  sweep-goes x a O₀ z O hs d v i w l byte eb z' hs' d' v' h =
      subst (λ (q : State). At p q (column_after p.set.width (i + 1)) ((i + 1) / p.set.width)) (sym h.state)
      (subst (λ (n : ℕ). At p (step p (state_of way v) n) (column_after p.set.width (i + 1)) ((i + 1) / p.set.width)) (sym eb)
      (at_turn p (state_of way v) i g.sound.width_low l w.at))

  place : (v : Visit) (i : ℕ) → At p (state_of way v) (column_after p.set.width i) (i / p.set.width) →
      v.row * p.set.width + v.column ≡ visited p.set.width i
  place v i a = rw (a.row, a.column) (sym (visited-is p.set.width g.sound.width_low i))

  pub sweep-place : (v : Visit) (i : ℕ) → i < pixels p.set → At p (state_of way v) (column_after p.set.width i) (i / p.set.width)
      → v.row * p.set.width + v.column < pixels p.set
  sweep-place v i l a = subst (λ (n : ℕ). n < pixels p.set) (sym (place v i a)) (visited-low p.set g.sound.width_low i l)

  pub sweep-start : (z : Stores) (O hs : List ℕ) (d : List ℤ) (v : Visit) → pixels p.set ≤ length O → state_of way v ≡ start way p 0 0 →
      AtWindow way b vs z hs d v
      → StateBounded p (state_of way v) 1 → (m : ℕ) → m ≡ answer_number v.answer
      → Sweeping way b vs (state_of way v) z (set O 0 m) z (set O 0 m) hs d v 0
  sweep-start z O hs d v long e h on m em =
      let k : At p (state_of way v) (column_after p.set.width 0) (0 / p.set.width) =
      subst (λ (q : State). At p q (column_after p.set.width 0) (0 / p.set.width)) (sym e) (serpentine-begins way g) in
      let o : visited p.set.width 0 ≡ 0 = sym (place v 0 k) ∙ zero-place in
      record {
        going = going_start way b vs (serpentine p.set) z hs d v h on;
        at = k;
        plane = rw o at (plane-first p g O long m pixels-some (em ∙ k.answer));
        rest = beyond-same _ _;
        inside = pixels-some;
      }
    where
      zero-place : v.row * p.set.width + v.column ≡ 0
      zero-place =
          let q = at-arrive way p 0 0 0 0 in
          let r : v.row ≡ 0 = ap (λ (y : State). y.row) e ∙ q.row in
          let c : v.column ≡ 0 = ap (λ (y : State). y.column) e ∙ q.column in
          rw (r, c) (omega arith)

  pub sweep-more : (x : State) (a : Stores) (O₀ : List ℕ) (z : Stores) (O hs : List ℕ) (d : List ℤ) (v : Visit) (i : ℕ) →
      Sweeping way b vs x a O₀ z O hs d v i
      → i + 1 < pixels p.set → pixels p.set ≤ length O₀ → (byte : ℕ) → byte ≡ turn p.set.width i →
      (z' : Stores) (hs' : List ℕ) (d' : List ℤ) (v' : Visit)
      → Visited way b vs (step p (state_of way v) byte) z z' hs' d' v' → (m : ℕ) → m ≡ answer_number v'.answer
      → Sweeping way b vs x a O₀ z' (set O (v'.row * p.set.width + v'.column) m) hs' d' v' (i + 1)
  sweep-more x a O₀ z O hs d v i w l long byte eb z' hs' d' v' h m em =
      let k = sweep-goes x a O₀ z O hs d v i w l byte eb z' hs' d' v' h in
      let e : v'.row * p.set.width + v'.column ≡ visited p.set.width (i + 1) = place v' (i + 1) k in
      let lo : length O ≡ length O₀ = w.rest.long in
      record {
        going =
            going_more way b vs (serpentine p.set) x a z hs d v i w.going (omega (arith, serpentine-length p.set)) byte
            (eb ∙ sym (serpentine-byte p.set i l)) z' hs' d' v' h;
        at = k;
        plane = rw e (plane-more p g O (omega arith) i m l (em ∙ k.answer) w.plane);
        rest =
            rw e
            (beyond-trans _ O₀ O _ w.rest
            (beyond-set O (visited p.set.width (i + 1)) _ _ (visited-low p.set g.sound.width_low (i + 1) l)));
        inside = l;
      }

  pub sweep-end : (y : State) (a₀ a : Stores) (O₁ O₀ : List ℕ) (z : Stores) (O hs : List ℕ) (d : List ℤ) (v : Visit) (i : ℕ) →
      Sweeping way b vs y a O₀ z O hs d v i
      → pixels p.set ≤ i + 1 → pixels p.set ≤ length O₀ → y ≡ start way p 0 0 → RestKept way p.set a₀ a → (q : ℕ) → O₀ ≡ set O₁ 0 q
      → Visited way b vs (filter_end way p) a₀ z hs d v × (O ≡ filtered p ++ drop (pixels p.set) O₁)
  unfolding filter_end walk_end
  sweep-end y a₀ a O₁ O₀ z O hs d v i w l long e kept q e₀ =
      let lo : length O ≡ length O₀ = w.rest.long in
      let dd : drop (pixels p.set) O ≡ drop (pixels p.set) O₁ =
      w.rest.beyond ∙ ap (drop (pixels p.set)) e₀ ∙ drop-set-lt (pixels p.set) O₁ 0 q pixels-some in (
        going_end way b vs (serpentine p.set) (start way p 0 0) y a₀ a z hs d v i w.going (omega (arith, serpentine-length p.set)) e kept,
        plane-all
            p g O (omega arith) i l w.plane O₁ dd,
      )

-- ---- the same with the plan's own numbers, as the code has them
module _ (way : Way) {b vs : List ℕ} {z : Plan} (k : Pictured b vs z) where
  abbrev n : ℕ
  n = z.width * z.height

  pub count-is : n ≡ pixels (frame_of b).set
  count-is = let f = facts k in ap₂ ◌*◌ f.width f.height

  pub some : 0 < n
  some = rw count-is (pixels-some way b vs (facts k).limits)

  pub first-in : (0 < z.width) × (0 < z.height)
  first-in = let f = facts k in (rw f.width f.limits.sound.width_low, rw f.height f.limits.sound.height_low)

  pub sweeping-start : (s : Stores) (O hs : List ℕ) (d : List ℤ) (v : Visit) → n ≤ length O → state_of way v ≡ start way (frame_with b vs) 0 0 →
      AtWindow way b vs s hs d v
      → (m : ℕ) → m ≡ answer_number v.answer → Sweeping way b vs (state_of way v) s (set O 0 m) s (set O 0 m) hs d v 0
  sweeping-start s O hs d v long e h m em =
      sweep-start way b vs (facts k).limits s O hs d v (rw count-is at long) e h (held_first way k 0 0 v first-in.0 first-in.1 e) m em

  module _ (x : State) (a : Stores) (O₀ : List ℕ) (s : Stores) (O hs : List ℕ) (d : List ℤ) (v : Visit) (i : ℕ)
      (w : Sweeping way b vs x a O₀ s O hs d v i) where
    pub sweeping-low : i < 262144
    sweeping-low = omega (arith, w.inside, (facts k).limits.sound.pixels_high)

    module _ (l : i + 1 < n) (byte : ℕ) (eb : byte ≡ turn z.width i) (s' : Stores) (hs' : List ℕ) (d' : List ℤ) (v' : Visit)
        (h : Visited way b vs (step (frame_with b vs) (state_of way v) byte) s s' hs' d' v') where
      inside : i + 1 < pixels (frame_of b).set
      inside = rw count-is at l

      byte-is : byte ≡ turn (frame_of b).set.width i
      byte-is = eb ∙ ap (λ (m : ℕ). turn m i) (facts k).width

      pub sweeping-place : v'.row * z.width + v'.column < n
      sweeping-place =
          rw (count-is, (facts k).width)
          (sweep-place way b vs (facts k).limits v' (i + 1) inside
          (sweep-goes way b vs (facts k).limits x a O₀ s O hs d v i w inside byte byte-is s' hs' d' v' h))

      -- the place is an argument, so that a wrong one is refused as such
      pub sweeping-more : n ≤ length O₀ → (m : ℕ) → m ≡ answer_number v'.answer → (place : ℕ) → place ≡ v'.row * z.width + v'.column
          → Sweeping way b vs x a O₀ s' (set O place m) hs' d' v' (i + 1)
      sweeping-more long m em place ep =
          rw (ep, (facts k).width)
          (sweep-more way b vs (facts k).limits x a O₀ s O hs d v i w inside (rw count-is at long) byte byte-is s' hs' d' v' h m em)

    pub sweeping-end : (a₀ : Stores) (O₁ : List ℕ) → n ≤ i + 1 → n ≤ length O₀ → x ≡ start way (frame_with b vs) 0 0
        → RestKept way (frame_of b).set a₀ a →
        (q : ℕ) → O₀ ≡ set O₁ 0 q
        → Visited way b vs (filter_end way (frame_with b vs)) a₀ s hs d v × (O ≡ filtered (frame_with b vs) ++ drop (pixels (frame_of b).set) O₁)
    sweeping-end a₀ O₁ l long e kept q e₀ =
        sweep-end way b vs (facts k).limits x a₀ a O₁ O₀ s O hs d v i w (rw count-is at l) (rw count-is at long) e kept q e₀
