-- The texts of rows, of planes and of refusals, as the functions put them piece by piece and as crate spec defines them.
-- Assumes nothing.
use Prim.Native.Nat.{ℕ, zero, suc, ◌+◌, ◌-◌, ◌*◌, ◌/◌, ◌%◌, ◌≤◌, ◌<◌}
use mathlib.Core.Path.{◌≡◌, refl, sym, ap, ap₂, ◌∙◌}
use mathlib.Core.List.{List, [], ◌∷◌, ◌++◌, append_assoc, append-nil}
use native.Mathlib.Nat.{add-zero}
use native.Mathlib.Numerals.{add-one}
use native.Mathlib.Omega.{arith}
use lib.Arith.{digits_div, digits_mod}
use lib.ListN.{length, get_or, get_or-append}
use borrow.Author.Tests.{eq-eqb, ne_eqb}
use Rattle.spec.specs.Frame.{Frame, pixels}
use Rattle.spec.specs.Median.{answer}
use Rattle.spec.specs.Filter.{filtered}
use Rattle.spec.specs.Program.{decimal, spaced, line, rows, beside, refused_word}
use Rattle.spec.proofs.First.{length-tabulate}
use Rattle.spec.proofs.Limits.{in-plane}
use Rattle.spec.proofs.Serpentine.{filtered-at}
use Rattle.text.specs.Text.{pieces, spaced_one, follower, row_text, plane_text, refusal_text}

-- ---- a row: the first level, those behind it, the end of the line
spaced-pieces : (m : List ℕ) (first k : ℕ) → spaced k (λ s. get_or m (first + s) 0) ≡ decimal (get_or m first 0) ++ pieces (follower m first) k
unfolding spaced pieces
spaced-pieces m first zero = ap (λ (j : ℕ). decimal (get_or m j 0)) (add-zero first) ∙ sym (append-nil (decimal (get_or m first 0)))
spaced-pieces m first (suc k) =
    ap₂ (λ (x : List ℕ) (j : ℕ). x ++ spaced_one (get_or m (first + j) 0)) (spaced-pieces m first k) (sym (add-one k))
    ∙ append_assoc (decimal (get_or m first 0)) (pieces (follower m first) k) (follower m first k)

pub row-pieces : (m : List ℕ) (first w : ℕ) → row_text m first w ≡ decimal (get_or m first 0) ++ pieces (follower m first) (w - 1) ++ (10 ∷ [])
unfolding row_text
row-pieces m first w = ap line (spaced-pieces m first (w - 1))

-- ---- the rows of a plane
spaced-same : (k : ℕ) (f g : ℕ → ℕ) → ((s : ℕ) → s ≤ k → f s ≡ g s) → spaced k f ≡ spaced k g
unfolding spaced
spaced-same zero f g e = ap decimal (e 0 (omega arith))
spaced-same (suc k) f g e = ap₂ (λ (x : List ℕ) (n : ℕ). x ++ spaced_one n) (spaced-same k f g (λ s h. e s (omega arith))) (e (suc k) (omega arith))

-- number q of a plane that begins with the filtered one
pub filtered-long : (p : Frame) → length (filtered p) ≡ pixels p.set
unfolding filtered
filtered-long p = length-tabulate (pixels p.set) (λ q. answer p (q % p.set.width) (q / p.set.width))

answer_at : (p : Frame) (rest : List ℕ) (s t : ℕ) → s < p.set.width → t < p.set.height →
    get_or (filtered p ++ rest) (t * p.set.width + s) 0 ≡ answer p s t
answer_at p rest s t hs ht =
    let q = t * p.set.width + s in
    let low : q < pixels p.set = in-plane p.set s t hs ht in
    get_or-append (filtered p) rest 0 q (omega (arith, filtered-long p))
    ∙ filtered-at p q low ∙ ap₂ (answer p) (digits_mod t hs) (digits_div t hs)

-- a plane that begins with the filtered one has the rows of the frame's answers
pub plane-rows : (p : Frame) (rest : List ℕ) (n : ℕ) → 1 ≤ p.set.width → n ≤ p.set.height →
    plane_text (filtered p ++ rest) p.set.width n ≡ rows p n
unfolding plane_text pieces rows row_text
plane-rows p rest zero w h = refl
plane-rows p rest (suc n) w h =
    ap₂ (λ (x y : List ℕ). x ++ line y) (plane-rows p rest n w (omega arith))
    (spaced-same (p.set.width - 1) _ (λ s. answer p s n) (λ s l. answer_at p rest s n (omega arith) (omega arith)))

-- ---- refusals
pub refusal-plain : (n offset : ℕ) → (n ≡ 7 → ⊥) → refusal_text n offset ≡ refused_word ++ decimal n ++ (10 ∷ [])
unfolding refusal_text beside
refusal-plain n offset h = rw (ne_eqb n 7 h) (ap line (append-nil (refused_word ++ decimal n)))

pub refusal-seven : (n offset : ℕ) → n ≡ 7 → refusal_text n offset ≡ refused_word ++ decimal n ++ spaced_one offset ++ (10 ∷ [])
unfolding refusal_text beside
refusal-seven n offset h = rw (eq-eqb n 7 h) (ap (λ (x : List ℕ). line (refused_word ++ decimal n ++ x)) (append-nil (spaced_one offset)))
