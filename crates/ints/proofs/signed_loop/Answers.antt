-- `ints::signed_loop` meets its contract: each term fits, and so does the sum so far. Assumes nothing.
use Rattle.std.specs.Prelude.{◌≡◌, List, [], ◌∷◌, ℕ, ◌+◌, ◌*◌, ◌≤◌, ℤ, pos, nat_abs, ◌-ℤ◌, ◌*ℤ◌, get_or}
use Rattle.std.proofs.Common.{arith, sym, ◌∙◌, ap₂}
use mir.Syntax.{w64}
use mir.Val.{SFits}
use Rattle.ints.specs.Polynomial.{◌⊕◌, ◌⊖◌, ◌⊗◌, x₀ as n, x₁ as x, x₂ as s, x₃ as acc}
use Rattle.ints.specs.Bound.{sfits_pos}
use Rattle.ints.proofs.Bound.{eval-within}
use Rattle.ints.specs.Machine.{Cell, read_back, param_cell, unsigned_cell, local_cell, read}
use Rattle.ints.proofs.Machine.{need, computes}
use Rattle.ints.specs.Sum.{Σ, Σ-zero, Σ-more, Σ-abs}
use Rattle.ints.proofs.signed_loop.Goals as goal

-- the sum of the terms of the first bytes
abbrev total : List ℕ → ℤ → ℤ → ℕ → ℤ
total a n s i = Σ i (λ k. n *ℤ pos (get_or a k 0) -ℤ s)

-- the sum over the parameters' bits is that over the parameters
given : (a : List ℕ) {n s : ℤ} → SFits w64 n → SFits w64 s → (i : ℕ) → total a (read_back w64 n) (read_back w64 s) i ≡ total a n s i
given a fits-n fits-s i = ap₂ (λ (n s : ℤ). total a n s i) (read w64 fits-n) (read w64 fits-s)

total-small : (a : List ℕ) (m t : ℤ) (i : ℕ) → ((k : ℕ) → get_or a k 0 ≤ 255) → nat_abs m ≤ 961 → nat_abs t ≤ 245055 → i ≤ 961 →
    nat_abs (total a m t i) ≤ 961 * 490110
total-small a m t i byte small-n small-s few =
    omega (
      arith,
      Σ-abs i (λ k. m *ℤ pos (get_or a k 0) -ℤ t) 490110
          (λ k h. eval-within (m ∷ pos (get_or a k 0) ∷ t ∷ []) (961 ∷ 255 ∷ 245055 ∷ []) (n ⊗ x ⊖ s) (small-n, (byte k, (small-s, tt)))),
    )

-- the place in the loop's body where the byte is known
abbrev Body : Type 0
Body = goal.After-row_known-1

byte : (c : Body) (k : ℕ) → get_or c.args.a.now k 0 ≤ 255
byte c k = omega (arith, c.type_inv.a k)

abbrev env : Body → List Cell
env c =
    let a = c.args in
    param_cell w64 a.n 961 c.requires.1 tt
    ∷ unsigned_cell w64 (get_or a.a.now c.loop-x.x-index 0) 255 (byte c c.loop-x.x-index) tt
    ∷ param_cell w64 a.s 245055 c.requires.2 tt
    ∷ local_cell w64 c.loop-x.acc-bits (total a.a.now a.n a.s c.loop-x.x-index) (961 * 490110)
    (c.loop-x.invariant ∙ given a.a.now c.ranges.n c.ranges.s c.loop-x.x-index)
    (total-small a.a.now a.n a.s c.loop-x.x-index (byte c) c.requires.1 c.requires.2 (omega arith))
    ∷ []

pub loop-x-init : goal.loop-x-init
loop-x-init c = sym (Σ-zero _)

pub overflow_cast-acc : goal.overflow_cast-acc
overflow_cast-acc c = sfits_pos 255 (byte c c.loop-x.x-index) tt

pub overflow_mul-acc : goal.overflow_mul-acc
overflow_mul-acc c = need w64 (env c) (n ⊗ x) tt

pub overflow_sub-acc : goal.overflow_sub-acc
overflow_sub-acc c = need w64 (env c) (n ⊗ x ⊖ s) tt

pub overflow_add-acc : goal.overflow_add-acc
overflow_add-acc c = need w64 (env c) (acc ⊕ (n ⊗ x ⊖ s)) tt

pub loop-x-preserved : goal.loop-x-preserved
loop-x-preserved c =
    let a = c.args in
    computes w64 (env c) (acc ⊕ (n ⊗ x ⊖ s)) tt ∙ sym (Σ-more c.loop-x.x-index (λ k. a.n *ℤ pos (get_or a.a.now k 0) -ℤ a.s))
    ∙ sym (given a.a.now c.ranges.n c.ranges.s (c.loop-x.x-index + 1))
