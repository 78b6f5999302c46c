-- How long the texts are at most.
-- Assumes nothing.
use Prim.Native.Nat.{ℕ, zero, suc, ◌+◌, ◌-◌, ◌*◌, ◌/◌, ◌%◌, ◌≤◌, ◌<◌}
use mathlib.Core.Path.{◌≡◌, refl, ap}
use mathlib.Core.Bool.{Bool, true, false}
use mathlib.Core.List.{List, [], ◌∷◌, ◌++◌}
use native.Mathlib.Nat.{suc-mul}
use native.Mathlib.Omega.{arith}
use lib.Dec.{eqb, ltb}
use lib.ListN.{length, length-append}
use borrow.Author.Tests.{ltb-true, ltb-false, eqb-true, eqb-false}
use Rattle.std.specs.Prelude.{if◌then◌else◌}
use Rattle.spec.specs.Frame.{Frame}
use Rattle.spec.specs.Median.{answer}
use Rattle.spec.specs.Program.{digits, decimal, spaced, line, rows, refused_word}
use Rattle.text.specs.Text.{spaced_one, size_text, way_text, refusal_text}
use Rattle.text.proofs.Rows.{refusal-plain, refusal-seven}
use Rattle.text.proofs.Digits.{decimal-low, decimal-high}

-- ---- a number
digits_long : (k n : ℕ) → length (digits k n) ≤ k + 1
unfolding digits
digits_long zero n = omega arith
digits_long (suc k) n = by (ltb n 10) (digits_long k (n / 10))
  where
    by : (b : Bool) → length (digits k (n / 10)) ≤ k + 1 → length ((if b then [] else digits k (n / 10)) ++ ((48 + n % 10) ∷ [])) ≤ suc k + 1
    by true h = omega arith
    by false h = let e = length-append (digits k (n / 10)) ((48 + n % 10) ∷ []) in omega arith

pub decimal-long : (n : ℕ) → length (decimal n) ≤ 20
decimal-long n = digits_long 19 n

-- one digit more below ten times the limit
decimal-more : (limit k : ℕ) → limit ≤ 10000 → ((n : ℕ) → n < limit → length (decimal n) ≤ k) → (n : ℕ) → n < 10 * limit → length (decimal n) ≤ suc k
decimal-more limit k few low n h = by (ltb n 10) refl
  where
    by : (b : Bool) → ltb n 10 ≡ b → length (decimal n) ≤ suc k
    by true e = let z = ap length (decimal-low n (ltb-true n 10 e)) in omega (arith, z)
    by false e =
        let l : 10 ≤ n = ltb-false n 10 e in
        let z = ap length (decimal-high n l (omega arith)) in
        let y = length-append (decimal (n / 10)) ((48 + n % 10) ∷ []) in
        omega (arith, z, y, low (n / 10) (omega arith))

-- five digits: a level, or no reading
pub decimal-short : (n : ℕ) → n < 100000 → length (decimal n) ≤ 5
decimal-short =
    decimal-more 10000 4 (omega arith)
    (decimal-more 1000 3 (omega arith)
    (decimal-more 100 2 (omega arith)
    (decimal-more 10 1 (omega arith) (λ n h. let z = ap length (decimal-low n h) in omega (arith, z)))))

-- ---- a line of answers: six bytes each at most
spaced-short : (k : ℕ) (f : ℕ → ℕ) → ((s : ℕ) → s ≤ k → f s < 100000) → length (spaced k f) ≤ 6 * k + 5
unfolding spaced
spaced-short zero f low = omega (arith, decimal-short (f 0) (low 0 (omega arith)))
spaced-short (suc k) f low =
    let h = spaced-short k f (λ s l. low s (omega arith)) in
    let d = decimal-short (f (suc k)) (low (suc k) (omega arith)) in
    let e = length-append (spaced k f) (spaced_one (f (suc k))) in
    omega (arith, h, d, e)

-- the rows of a frame
pub rows_short : (p : Frame) (n : ℕ) → 1 ≤ p.set.width → ((s t : ℕ) → s < p.set.width → t < n → answer p s t < 100000) →
    length (rows p n) ≤ 6 * (n * p.set.width)
unfolding rows
rows_short p zero w low = omega arith
rows_short p (suc n) w low =
    let k = p.set.width in
    let row = spaced (k - 1) (λ s. answer p s n) in
    let h = rows_short p n w (λ s t a b. low s t a (omega arith)) in
    let d : length row ≤ 6 * (k - 1) + 5 = spaced-short (k - 1) (λ s. answer p s n) (λ s l. low s n (omega arith) (omega arith)) in
    let e = length-append (rows p n) (line row) in
    let f = length-append row (10 ∷ []) in
    let g = suc-mul n k in
    omega (arith, h, d, e, f, g)

-- ---- the other lines
pub size-short : (w h : ℕ) → length (size_text w h) ≤ 42
unfolding size_text
size-short w h =
    let a = length-append (decimal w ++ spaced_one h) (10 ∷ []) in
    let b = length-append (decimal w) (spaced_one h) in
    omega (arith, a, b, decimal-long w, decimal-long h)

pub way-short : (word : List ℕ) (n : ℕ) → length (way_text word n) ≤ length word + 21
unfolding way_text
way-short word n =
    let a = length-append (word ++ decimal n) (10 ∷ []) in
    let b = length-append word (decimal n) in
    omega (arith, a, b, decimal-long n)

pub refusal-short : (n offset : ℕ) → length (refusal_text n offset) ≤ 50
refusal-short n offset = by (eqb n 7) refl
  where
    by : (b : Bool) → eqb n 7 ≡ b → length (refusal_text n offset) ≤ 50
    by true e =
        let z = ap length (refusal-seven n offset (eqb-true n 7 e)) in
        let a = length-append (refused_word ++ decimal n ++ spaced_one offset) (10 ∷ []) in
        let b = length-append (refused_word ++ decimal n) (spaced_one offset) in
        let d = length-append refused_word (decimal n) in
        omega (arith, z, a, b, d, decimal-long n, decimal-long offset)
    by false e =
        let z = ap length (refusal-plain n offset (eqb-false n 7 e)) in
        let a = length-append (refused_word ++ decimal n) (10 ∷ []) in
        let b = length-append refused_word (decimal n) in
        omega (arith, z, a, b, decimal-long n)
