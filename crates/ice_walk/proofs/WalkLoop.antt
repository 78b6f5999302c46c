-- The walk's loop: its invariant and what a turn does to it, over plain values.
-- Assumes nothing.
use Prim.Native.Nat.{ℕ, zero, suc, ◌+◌, ◌*◌, ◌≤◌, ◌<◌}
use mathlib.Core.Path.{◌≡◌, refl, ap, ap₂, sym, ◌∙◌, subst}
use mathlib.Core.List.{List, [], ◌∷◌, ◌++◌}
use native.Mathlib.Omega.{arith}
use native.Mathlib.Numerals.{add-one}
use lib.ListN.{length, get_or, take, drop, set, length-append, length-take, length-drop}
use lib.Seq.{take-suc, take-length, set_split, drop-set-lt}
use lib.IntN.{ℤ}
use Rattle.spec.specs.declared.Settings.{Settings}
use Rattle.spec.specs.declared.Plan.{Plan}
use Rattle.spec.specs.declared.Way.{Way}
use Rattle.spec.specs.Frame.{Frame, frame_of, settings_in}
use Rattle.spec.specs.Checks.{Planned}
use Rattle.spec.specs.Walk.{State, answer_number, arrive, start, step, answers, walk_end, walk_answers}
use Rattle.spec.proofs.Steps.{length-answers}
use Rattle.spec.proofs.Walks.{StateBounded, walk-answers}
use Rattle.visit.specs.declared.Visit.{Visit}
use Rattle.visit.specs.Visit.{state_of}
use Rattle.ways.specs.Visit.{Stores, RestKept, StoresHold, AtWindow, Visited}
use Rattle.ice_step.proofs.Laws.{Going, going_start, going_more, going_end, answers_one, told_more}

-- A₀ are the answers where the loop begins
pub record Walking (way : Way) (b ms : List ℕ) (x : State) (a : Stores) (A₀ : List ℕ) (z : Stores) (A hs : List ℕ) (d : List ℤ) (v : Visit) (i : ℕ) :
    Type 0 where
  pub going : Going way b [] ms x a z hs d v i
  pub told : A ≡ answers (frame_of b) x (take i ms) ++ drop (i + 1) A₀

module _ (way : Way) (b ms : List ℕ) where
  pub walking_start : (z : Stores) (A hs : List ℕ) (d : List ℤ) (v : Visit) → 0 < length A → AtWindow way b [] z hs d v →
      StateBounded (frame_of b) (state_of way v) 1 → (m : ℕ) → m ≡ answer_number v.answer
      → Walking way b ms (state_of way v) z (set A 0 m) z (set A 0 m) hs d v 0
  unfolding answers
  walking_start z A hs d v l h on m em =
      record {
        going = going_start way b [] ms z hs d v h on;
        told = set_split A 0 m l ∙ ap₂ (λ (n : ℕ) (q : List ℕ). n ∷ q) em (sym (drop-set-lt 1 A 0 m (omega arith)));
      }

  pub walking-long : (x : State) (a : Stores) (A₀ : List ℕ) (z : Stores) (A hs : List ℕ) (d : List ℤ) (v : Visit) (i : ℕ)
      → Walking way b ms x a A₀ z A hs d v i → length ms + 1 ≤ length A₀ → length A ≡ length A₀
  walking-long x a A₀ z A hs d v i w l =
      let e : length A ≡ length (answers (frame_of b) x (take i ms)) + length (drop (i + 1) A₀) =
      ap length w.told ∙ length-append (answers (frame_of b) x (take i ms)) (drop (i + 1) A₀) in
      omega (arith, e, length-answers (frame_of b) x (take i ms), length-take i ms, length-drop (i + 1) A₀, w.going.most)

  pub walking-more : (x : State) (a : Stores) (A₀ : List ℕ) (z : Stores) (A hs : List ℕ) (d : List ℤ) (v : Visit) (i : ℕ) →
      Walking way b ms x a A₀ z A hs d v i
      → i < length ms → length ms + 1 ≤ length A₀ → (z' : Stores) (hs' : List ℕ) (d' : List ℤ) (v' : Visit)
      → Visited way b [] (step (frame_of b) (state_of way v) (get_or ms i 0)) z z' hs' d' v' → (m : ℕ) → m ≡ answer_number v'.answer
      → Walking way b ms x a A₀ z' (set A (i + 1) m) hs' d' v' (i + 1)
  walking-more x a A₀ z A hs d v i w l long z' hs' d' v' h m em =
      let p = frame_of b in
      let front = answers p x (take i ms) in
      let said : m ≡ (step p (state_of way v) (get_or ms i 0)).answer = em ∙ ap (λ (q : State). q.answer) h.state in
      let g : answers p x (take (i + 1) ms) ≡ front ++ (m ∷ []) =
      rw (add-one i, take-suc ms i 0 l)
      (answers_one p x (take i ms) (get_or ms i 0)
      ∙ ap (λ (q : State). front ++ ((step p q (get_or ms i 0)).answer ∷ [])) (sym w.going.visited.state)
      ∙ ap (λ (q : ℕ). front ++ (q ∷ [])) (sym said)) in
      let n : length front ≡ i + 1 = omega (arith, length-answers p x (take i ms), length-take i ms) in
      record {
        going = going_more way b [] ms x a z hs d v i w.going l _ refl z' hs' d' v' h;
        told =
            rw g (told_more front A A₀ i _ n (omega arith) w.told);
      }

  pub walking-end : (s t : ℕ) (y : State) (a₀ a : Stores) (A₁ A₀ : List ℕ) (z : Stores) (A hs : List ℕ) (d : List ℤ) (v : Visit) (i : ℕ) →
      Walking way b ms y a A₀ z A hs d v i
      → length ms ≤ i → y ≡ start way (frame_of b) s t → RestKept way (frame_of b).set a₀ a → (q : ℕ) → A₀ ≡ set A₁ 0 q
      → Visited way b [] (walk_end way (frame_of b) s t ms) a₀ z hs d v × (A ≡ walk_answers (frame_of b) s t ms ++ drop (length ms + 1) A₁)
  unfolding walk_end
  walking-end s t y a₀ a A₁ A₀ z A hs d v i w l e kept q e₀ =
      let x = start way (frame_of b) s t in
      let j : i ≡ length ms = omega (arith, w.going.most) in
      let all : take i ms ≡ ms = ap (λ (n : ℕ). take n ms) j ∙ take-length ms in
      let r : drop (i + 1) A₀ ≡ drop (length ms + 1) A₁ = rw (e₀, j) (drop-set-lt (length ms + 1) A₁ 0 q (omega arith)) in
      let told : answers (frame_of b) x ms ≡ walk_answers (frame_of b) s t ms = walk-answers way (frame_of b) s t ms in
      (going_end way b [] ms x y a₀ a z hs d v i w.going l e kept, w.told ∙ cc)
