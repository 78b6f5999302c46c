-- The moves of the filter's walk so far, and what the walk along them leaves, over plain values.
-- Assumes nothing.
use Prim.Native.Nat.{ℕ, zero, suc, ◌+◌, ◌-◌, ◌*◌, ◌≤◌, ◌<◌}
use mathlib.Core.Path.{◌≡◌, refl, ap, ap₂, sym, ◌∙◌, subst}
use mathlib.Core.List.{List, [], ◌∷◌, ◌++◌}
use native.Mathlib.Omega.{arith}
use lib.ListN.{length, get_or, take, drop}
use lib.Seq.{length-take-le, get_or-take}
use lib.IntN.{ℤ}
use Rattle.std.proofs.lemmas.List.{nil_from_length}
use Rattle.spec.specs.declared.Plan.{Plan}
use Rattle.spec.specs.declared.Way.TheVariants.{Joint}
use Rattle.spec.specs.Frame.{Frame, frame_of}
use Rattle.spec.specs.Checks.{Planned}
use Rattle.spec.specs.Walk.{State, step, answers, walk_end, walk_answers}
use Rattle.spec.specs.Filter.{turn, serpentine}
use Rattle.spec.specs.Calls.{counts_of, words_of}
use Rattle.spec.specs.Cameras.{counts_room, words_room}
use Rattle.spec.proofs.Plans.{facts, plane-small}
use Rattle.spec.proofs.Serpentine.{serpentine-length, serpentine-byte}
use Rattle.visit.specs.declared.Visit.{Visit}
use Rattle.visit.specs.Visit.{state_of}
use Rattle.ways.specs.Visit.{Stores, stores, Visited}
use Rattle.ways.proofs.WayLaws.{joined}
use Rattle.ice_filter.proofs.FilterLoop.{count-is}
use Rattle.ice_prefix.specs.Prefix.{parts, Begun}

-- the answers of the first moves are the first answers
pub answers-take : (p : Frame) (x : State) (bs : List ℕ) (m : ℕ) → answers p x (take m bs) ≡ take (suc m) (answers p x bs)
unfolding answers
answers-take p x [] zero = refl
answers-take p x [] (suc m) = refl
answers-take p x (b ∷ bs) zero = refl
answers-take p x (b ∷ bs) (suc m) = ap (λ (l : List ℕ). x.answer ∷ l) (answers-take p (step p x b) bs m)

-- the moves to the n-th pixel
unfoldable pub moves_to : List ℕ → ℕ → List ℕ
moves_to f n = take (n - 1) (serpentine (frame_of f).set)

-- way 1 is lent no numbers, so none come back
pub none_back : {f : List ℕ} {x : State} {xs ws : List ℕ} {s : Stores} {hs : List ℕ} {d : List ℤ} {v : Visit}
    → Visited Joint f [] x (stores xs ws []) s hs d v → Visited Joint f [] x (stores xs ws []) (stores s.counts s.words []) hs d v
none_back {f} {x} {xs} {ws} {s} {hs} {d} {v} w =
    subst (λ (q : List ℕ). Visited Joint f [] x (stores xs ws []) (stores s.counts s.words q) hs d v)
    (nil_from_length s.numbers w.kept.numbers.long) w

module _ {f : List ℕ} {z : Plan} (k : Planned f z) where
  module _ (n : ℕ) (some : 1 ≤ n) (few : n ≤ z.width * z.height) where
    pub few-pixels : n ≤ 262144
    few-pixels = omega (arith, plane-small k)

    pub moves_long : length (moves_to f n) ≡ n - 1
    unfolding moves_to
    moves_long = length-take-le (n - 1) (serpentine (frame_of f).set) (omega (arith, serpentine-length (frame_of f).set, count-is Joint k))

    pub move_at : (i : ℕ) → i + 1 < n → turn z.width i ≡ get_or (moves_to f n) i 0
    unfolding moves_to
    move_at i h =
        sym (get_or-take (n - 1) (serpentine (frame_of f).set) i 0 (omega arith)
        ∙ serpentine-byte (frame_of f).set i (omega (arith, count-is Joint k)) ∙ ap (λ (w : ℕ). turn w i) (sym (facts k).width))

    -- a turn's step, by the byte that the code made
    pub stepped : (i byte : ℕ) → i + 1 < n → byte ≡ turn z.width i → (v : Visit) (a s : Stores) (hs : List ℕ) (d : List ℤ) (v' : Visit)
        → Visited Joint f [] (step (frame_of f) (state_of Joint v) byte) a s hs d v'
        → Visited Joint f [] (step (frame_of f) (state_of Joint v) (get_or (moves_to f n) i 0)) a s hs d v'
    stepped i byte h e v a s hs d v' w =
        subst (λ (m : ℕ). Visited Joint f [] (step (frame_of f) (state_of Joint v) m) a s hs d v') (e ∙ move_at i h) w

    -- the end
    pub begun : (a s : Stores) (hs : List ℕ) (d : List ℤ) (v : Visit) (A A₁ : List ℕ)
        → Visited Joint f [] (walk_end Joint (frame_of f) 0 0 (moves_to f n)) a s hs d v
        → A ≡ walk_answers (frame_of f) 0 0 (moves_to f n) ++ drop (length (moves_to f n) + 1) A₁
        → Begun f n (parts a.counts a.words A₁) (parts s.counts s.words A)
    unfolding moves_to frame_of walk_answers
    begun a s hs d v A A₁ w e =
        let p = frame_of f in
        let x = walk_end Joint p 0 0 (take (n - 1) (serpentine p.set)) in
        let l : length (take (n - 1) (serpentine p.set)) + 1 ≡ n = omega (arith, moves_long) in
        let m : suc (n - 1) ≡ n = omega arith in
        record {
          counts =
              joined (counts_room f) _ s.counts (subst (λ (y : State). take (counts_room f) s.counts ≡ counts_of Joint p y.column y.row)
              w.state w.here.holds.counts)
              ∙ ap (λ (q : List ℕ). counts_of Joint p x.column x.row ++ q) w.kept.counts.beyond;
          words =
              joined (words_room f) _ s.words (subst (λ (y : State). take (words_room f) s.words ≡ words_of Joint p y.column y.row)
              w.state w.here.holds.words)
              ∙ ap (λ (q : List ℕ). words_of Joint p x.column x.row ++ q) w.kept.words.beyond;
          answers =
              e ∙ ap₂ (λ (q : List ℕ) (j : ℕ). q ++ drop j A₁)
              (answers-take p _ (serpentine p.set) (n - 1) ∙ ap (λ (j : ℕ). take j (walk_answers p 0 0 (serpentine p.set))) m) l;
        }
