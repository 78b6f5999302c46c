-- Laws of numbers made one after the other, and of a file's numbers as their bytes stand. Assumes nothing.
use Rattle.std.proofs.Common.{◌≡◌, refl, ap, List, ℕ, ◌+◌, ◌*◌, ◌<◌, arith, length, set}
use Rattle.std.proofs.lemmas.Grind.{common_steps}
use Rattle.spec.specs.Bytes.{AllBytes, be16}
use Rattle.spec.specs.Frame.{plane}
use Rattle.big_endian_part.specs.Part.{Made, low_first, exchanged}

-- ---- numbers made one after the other: none at first, one more, as many more; and by the same rule in other words
pub made-start : (rule : ℕ → ℕ) (from : ℕ) (xs : List ℕ) → Made rule from 0 xs xs
made-start rule from xs = record { long = refl; is = λ g h l. absurd (omega arith); before = λ g h. refl }

pub made-next : {rule : ℕ → ℕ} {from k : ℕ} (j v : ℕ) {xs ys : List ℕ} → j ≡ from + k → j < length xs → v ≡ rule j → Made rule from k xs ys →
    Made rule from (k + 1) xs (set ys j v)
made-next {rule} {from} {k} j v {xs} {ys} ej h e r = record {
  long = grind (arith, common_steps);
  is = λ g l u. grind (arith, common_steps, r.is g l);
  before = λ g l. grind (arith, common_steps, r.before g l);
}

pub made_more : {rule : ℕ → ℕ} {from n j k : ℕ} {xs ys zs : List ℕ} → j ≡ from + n → Made rule from n xs ys → Made rule j k ys zs →
    Made rule from (n + k) xs zs
made_more {j = j} e r q = record {
  long = cc;
  is = λ g l u. grind (arith, r.is g l, q.is g, q.before g);
  before = λ g l. grind (arith, r.before g l, q.before g);
}

-- ---- a number of the file as its bytes stand, and exchanged
pub low-first : (b : List ℕ) → AllBytes b → (first g : ℕ) → exchanged (low_first b first g) ≡ plane b first g
unfolding low_first exchanged be16
low-first b bytes first g = omega (arith, bytes (first + 2 * g), bytes (first + 2 * g + 1))

pub plane-on : (b : List ℕ) (first from k : ℕ) → plane b (first + 2 * from) k ≡ plane b first (from + k)
plane-on b first from k = let e : first + 2 * from + 2 * k ≡ first + 2 * (from + k) = omega arith in ap (be16 b) e
