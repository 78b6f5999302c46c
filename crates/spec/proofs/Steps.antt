-- The walk one byte further.
-- Assumes nothing.
use mathlib.Core.Path.{◌≡◌, refl, ap}
use mathlib.Core.List.{List, [], ◌∷◌, ◌++◌}
use Prim.Native.Nat.{ℕ, zero, suc, ◌≤◌}
use native.Mathlib.Nat.{not-suc-le-zero, le_of_suc-le-suc}
use lib.ListN.{length, get_or, take}
use Rattle.spec.specs.Frame.{Frame}
use Rattle.spec.specs.Walk.{State, step, after, answers}

pub after_one : (p : Frame) (x : State) (bs : List ℕ) (b : ℕ) → after p x (bs ++ (b ∷ [])) ≡ step p (after p x bs) b
unfolding after
after_one p x [] b = refl
after_one p x (c ∷ bs) b = after_one p (step p x c) bs b

pub length-answers : (p : Frame) (x : State) (bs : List ℕ) → length (answers p x bs) ≡ suc (length bs)
unfolding answers
length-answers p x [] = refl
length-answers p x (b ∷ bs) = ap suc (length-answers p (step p x b) bs)

-- the answer at place k is what the walk says after the first k bytes
pub get_or-answers : (p : Frame) (x : State) (bs : List ℕ) (k : ℕ) → k ≤ length bs → get_or (answers p x bs) k 0 ≡ (after p x (take k bs)).answer
unfolding answers after
get_or-answers p x [] zero h = refl
get_or-answers p x [] (suc k) h = absurd (not-suc-le-zero h)
get_or-answers p x (b ∷ bs) zero h = refl
get_or-answers p x (b ∷ bs) (suc k) h = get_or-answers p (step p x b) bs k (le_of_suc-le-suc h)
