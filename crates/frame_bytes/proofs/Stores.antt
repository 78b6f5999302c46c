-- Laws of stores: runs of bytes that follow each other, a run into a part of a list, and the bytes of a list of numbers. Each place is an equation
-- of its own, so that a store at another place makes that equation false. Assumes nothing.
use mathlib.Core.Path.{◌≡◌, refl, sym, ap, ◌∙◌}
use mathlib.Core.List.{List, [], ◌∷◌, ◌++◌, append_assoc, append-nil}
use Prim.Native.Nat.{ℕ, ◌+◌, ◌-◌, ◌*◌, ◌≤◌, ◌<◌}
use native.Mathlib.Nat.{zero-add}
use native.Mathlib.Numerals.{add-one}
use native.Mathlib.Omega.{arith}
use lib.ListN.{length, get_or, take, drop, length-drop, drop_of_length-le}
use lib.Seq.{sets, sets-eq, take-suc, take_all, drop-drop, length-take-le}
use Rattle.spec.proofs.Lists.{sets-append}
use Rattle.spec.specs.Bytes.{to16, all16}

-- a run of stores, and then another where it ended
pub placed : (l : List ℕ) (from : ℕ) (vs ws : List ℕ) {at : ℕ} {prev out : List ℕ} → prev ≡ sets l from vs → out ≡ sets prev at ws
    → at ≡ from + length vs → out ≡ sets l from (vs ++ ws)
placed l from vs ws {at} e f h =
    f ∙ ap (λ (x : List ℕ). sets x at ws) e ∙ ap (λ (j : ℕ). sets (sets l from vs) j ws) h ∙ sets-append vs ws l from

-- a run into what lies from a place on, put back
pub part-stored : (l : List ℕ) (at : ℕ) (vs : List ℕ) {part : List ℕ} → at + length vs ≤ length l
    → part ≡ sets (take (length l - at) (drop at l)) 0 vs → take at l ++ (part ++ drop (length l - at) (drop at l)) ≡ sets l at vs
part-stored l at vs {part} h e =
    let long : length (drop at l) ≡ length l - at = length-drop at l in
    let whole : take (length l - at) (drop at l) ≡ drop at l = take_all (length l - at) (drop at l) (omega arith) in
    let none : drop (length l - at) (drop at l) ≡ [] = drop_of_length-le (drop at l) {i = length l - at} (omega arith) in
    let inside : part ≡ vs ++ drop (length vs) (drop at l) =
    e ∙ ap (λ (x : List ℕ). sets x 0 vs) whole ∙ sets-eq vs (drop at l) 0 (omega arith)
    ∙ ap (λ (j : ℕ). vs ++ drop j (drop at l)) (zero-add (length vs)) in
    ap (λ (x : List ℕ). take at l ++ x) (ap (λ (x : List ℕ). part ++ x) none ∙ append-nil part ∙ inside ∙ ap (λ (x : List ℕ). vs ++ x)
    (drop-drop (length vs) at l)) ∙ sym (append_assoc (take at l) vs (drop (at + length vs) l)) ∙ sym (sets-eq vs l at h)

-- ---- lists of numbers
pub length-all16 : (l : List ℕ) → length (all16 l) ≡ 2 * length l
unfolding all16 to16
length-all16 [] = refl
length-all16 (n ∷ l) = let h = length-all16 l in omega arith

pub all16-append : (x y : List ℕ) → all16 (x ++ y) ≡ all16 x ++ all16 y
unfolding all16
all16-append [] y = refl
all16-append (n ∷ x) y = ap (λ (z : List ℕ). to16 n ++ z) (all16-append x y) ∙ sym (append_assoc (to16 n) (all16 x) (all16 y))

all16-one : (n : ℕ) → all16 (n ∷ []) ≡ to16 n
unfolding all16
all16-one n = append-nil (to16 n)

pub all-again : (l : List ℕ) (from k : ℕ) (list : List ℕ) {at : ℕ} {prev out : List ℕ} → k < length list
    → prev ≡ sets l from (all16 (take k list)) → out ≡ sets prev at (to16 (get_or list k 0)) → at ≡ from + 2 * k
    → out ≡ sets l from (all16 (take (k + 1) list))
all-again l from k list h e f place =
    rw (add-one, take-suc list k 0 h, all16-append, all16-one)
    (placed l from (all16 (take k list)) (to16 (get_or list k 0)) e f
    (omega (arith, length-all16 (take k list), length-take-le k list (omega arith))))
