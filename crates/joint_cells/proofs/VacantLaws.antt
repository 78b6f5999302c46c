-- Words put together by their bits: where that gives 0, each of them is 0.
-- Assumes nothing.
use Rattle.std.proofs.Common.{◌≡◌, refl, sym, ◌∙◌, ℕ, zero, suc, ◌+◌, ◌-◌, ◌<◌, List, [], ◌∷◌, get_or, take, drop, fold, bit_or, arith}
use lib.Bits.{or_add_and, and_le_l, and_le_r}
use Rattle.std.proofs.lemmas.List.{get_or-take, get_or-drop}
use Rattle.joint_cells.specs.Vacant.{Clear}

pub or-none : (a b : ℕ) → bit_or a b ≡ 0 → (a ≡ 0) × (b ≡ 0)
or-none a b e = (omega (arith, or_add_and a b, and_le_r a b), omega (arith, or_add_and a b, and_le_l a b))

fold-none : (a : ℕ) (xs : List ℕ) → fold bit_or a xs ≡ 0 → (a ≡ 0) × ((j : ℕ) → get_or xs j 0 ≡ 0)
fold-none a [] e = (e, λ j. refl)
fold-none a (x ∷ xs) e =
    let h : (bit_or a x ≡ 0) × ((j : ℕ) → get_or xs j 0 ≡ 0) = fold-none (bit_or a x) xs e in
    let q : (a ≡ 0) × (x ≡ 0) = or-none a x h.0 in
    (q.0, at q.1 h.1)
  where
    at : x ≡ 0 → ((j : ℕ) → get_or xs j 0 ≡ 0) → (j : ℕ) → get_or (x ∷ xs) j 0 ≡ 0
    at z h zero = z
    at z h (suc j) = h j

pub none-together : (ws : List ℕ) (first n : ℕ) → fold bit_or 0 (take ((first + n) - first) (drop first ws)) ≡ 0 → Clear ws first n
none-together ws first n e = record {
  zeros = λ j h.
      let l : j < (first + n) - first = omega arith in
      sym (get_or-take {A = ℕ} ((first + n) - first) (drop first ws) j 0 l ∙ get_or-drop {A = ℕ} first ws j 0)
      ∙ (fold-none 0 (take ((first + n) - first) (drop first ws)) e).1 j;
}
