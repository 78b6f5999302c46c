-- Laws of a summary: the sums gathered over blocks of 16 levels, from zeros, are the definition's.
-- Assumes nothing.
use mathlib.Core.Path.{◌≡◌, sym, ap, ap₂, ◌∙◌}
use mathlib.Core.List.{List, ◌++◌}
use Prim.Native.Nat.{ℕ, ◌+◌, ◌/◌, ◌≤◌}
use native.Mathlib.Omega.{arith}
use lib.ListN.{length, replicate, take, drop, length-replicate}
use lib.Seq.{ext_get_or, length-take-le}
use lib.IntN.{ℤ, pos}
use Rattle.spec.specs.Frame.{Frame}
use Rattle.spec.specs.Coarse.{block_count, block_weight, summary}
use Rattle.spec.proofs.First.{length-tabulate, get_d_tabulate}
use Rattle.weight_sums.specs.Sums.{block_of, weight_in, BlocksFit, Gathered}

-- ---- n places filled with 0
pub zeroed : {n : ℕ} (xs : List ℤ) {ys : List ℤ} → n ≤ length xs → ys ≡ replicate (length (take n xs)) (pos 0) → ys ≡ replicate n (pos 0)
zeroed {n} xs room e = e ∙ ap (λ (k : ℕ). replicate k (pos 0)) (length-take-le n xs room)

-- so many blocks are enough for the levels
pub blocks-fit : (n levels : ℕ) → n ≡ (levels + 15) / 16 → BlocksFit 16 levels (replicate n (pos 0))
unfolding block_of
blocks-fit n levels e = record { inside = λ i l. omega (arith, length-replicate {A = ℤ} n (pos 0)) }

-- the sums of the window's blocks
pub gathered-summary : {p : Frame} {s t : ℕ} {xs ys : List ℤ} → length xs ≡ block_count p.set → Gathered 16 p s t xs ys → ys ≡ summary p s t
unfolding summary block_weight weight_in block_of
gathered-summary {p} {s} {t} {xs} {ys} long g =
    ext_get_or (pos 0) ys (summary p s t) (g.long ∙ long ∙ sym (length-tabulate (block_count p.set) (block_weight p s t)))
    (λ j l. g.blocks j ∙ sym (get_d_tabulate (block_count p.set) (block_weight p s t) j (pos 0) (omega (arith, g.long, long))))

-- with the numbers beyond
pub filled : {p : Frame} {s t n : ℕ} (rest : List ℤ) {ys : List ℤ} → n ≡ block_count p.set → Gathered 16 p s t (replicate n (pos 0)) ys
    → ys ++ drop n rest ≡ summary p s t ++ drop (block_count p.set) rest
filled {n = n} rest e g =
    ap₂ ◌++◌ (gathered-summary (length-replicate n (pos 0) ∙ e) g) (ap (λ (k : ℕ). drop k rest) e)
