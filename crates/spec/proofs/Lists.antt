-- Runs of stores into a list, and a part of one.
-- Assumes nothing.
use mathlib.Core.Path.{◌≡◌, sym, ap, ◌∙◌}
use mathlib.Core.List.{List, [], ◌∷◌, ◌++◌}
use Prim.Native.Nat.{ℕ, suc, ◌+◌, ◌≤◌, ◌<◌}
use native.Mathlib.Nat.{add-zero, add-suc, suc-add}
use native.Mathlib.Omega.{arith}
use lib.ListN.{length, get_or, set, take, drop, length-drop}
use lib.Seq.{sets, get_or-take, get_or-drop, length-take-le}

-- a run of stores behind another is one run
pub sets-append : (vs ws l : List ℕ) (i : ℕ) → sets (sets l i vs) (i + length vs) ws ≡ sets l i (vs ++ ws)
sets-append [] ws l i = ap (λ (j : ℕ). sets l j ws) (add-zero i)
sets-append (v ∷ vs) ws l i =
    ap (λ (j : ℕ). sets (sets (set l i v) (suc i) vs) j ws) (add-suc i (length vs) ∙ sym (suc-add i (length vs)))
    ∙ sets-append vs ws (set l i v) (suc i)

-- n numbers of a list from place i on
pub part-long : (xs : List ℕ) (i n : ℕ) → i + n ≤ length xs → length (take n (drop i xs)) ≡ n
part-long xs i n h = length-take-le n (drop i xs) (rw length-drop (omega arith))

pub part-cell : (xs : List ℕ) (i n k : ℕ) → k < n → get_or (take n (drop i xs)) k 0 ≡ get_or xs (i + k) 0
part-cell xs i n k h = get_or-take n (drop i xs) k 0 h ∙ get_or-drop i xs k 0
