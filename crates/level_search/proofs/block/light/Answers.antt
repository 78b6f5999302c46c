-- `level_search::block::light` meets its contract: both sides of the test fit 64 bits. Assumes nothing.
use Rattle.std.proofs.Common.{◌≡◌, subst, ℕ, ◌+◌, ◌-◌, ◌≤◌, ℤ, pos, nat_abs, ◌+ℤ◌, ◌*ℤ◌, ◌<ℤ◌, List, [], ◌∷◌, length, w64, arith}
use Rattle.ints.specs.Machine.{Cell, param_cell, unsigned_cell, lt-true}
use Rattle.ints.specs.Polynomial.{var, ◌⊕◌, ◌⊗◌, #◌, x₀, x₁, x₂, x₃, x₄}
use Rattle.ints.specs.Auto.{signed_code}
use Rattle.ints.proofs.Auto.{need! }
use Rattle.ints.proofs.Machine.{computes}
use Rattle.window_weights.specs.declared.coefficients.Coefficients.{Coefficients}
use Rattle.window_weights.specs.Coefficients.{CoefficientsSmall, weight_of}
use Rattle.level_search.specs.declared.Tally.{Tally}
use Rattle.level_search.specs.Search.{sum_to}
use Rattle.level_search.proofs.block.light.Goals as goal

abbrev cells : (k : Coefficients) (w : ℤ) (a : Tally) (pixels : ℕ) → CoefficientsSmall k × (nat_abs w ≤ 240207812100) × (a.count ≤ 961) × (a.sum ≤ 245055) →
    pixels ≤ 961 → List Cell
cells k w a pixels small few =
    param_cell w64 k.slope 235497855 small.0.slope tt
    ∷ param_cell w64 k.offset 180155859075 small.0.offset tt
    ∷ param_cell w64 k.total 173129780571075 small.0.total tt
    ∷ unsigned_cell w64 a.count 961 small.2 tt
    ∷ unsigned_cell w64 a.sum 245055 small.3 tt
    ∷ param_cell w64 w 240207812100 small.1 tt
    ∷ unsigned_cell w64 pixels 961 few tt
    ∷ []

-- a block has no more pixels than the window
few : (counts : List ℕ) (i pixels : ℕ) → i + 16 ≤ length counts → ((n : ℕ) → n ≤ length counts → sum_to counts n ≤ 961) →
    pixels + sum_to counts i ≡ sum_to counts (i + 16) → pixels ≤ 961
few counts i pixels whole high e = omega (arith, high (i + 16) whole)

pub overflow_add-most : goal.overflow_add-most
overflow_add-most c =
    let h = few c.args.counts.now c.args.from.0 _ c.if-counts-at.false c.requires.from_in_bounds.2 c.total-pixels.ensures in
    need! w64 (cells c.args.coefficients c.args.heaviest c.args.below c.total-pixels.result c.requires.coefficients_small h) (search signed_code depth 12) tt

pub overflow_mul-most-3 : goal.overflow_mul-most-3
overflow_mul-most-3 c =
    let h = few c.args.counts.now c.args.from.0 _ c.if-counts-at.false c.requires.from_in_bounds.2 c.total-pixels.ensures in
    need! w64 (cells c.args.coefficients c.args.heaviest c.args.below c.total-pixels.result c.requires.coefficients_small h) (search signed_code depth 12) tt

pub overflow_add-most-2 : goal.overflow_add-most-2
overflow_add-most-2 c =
    let h = few c.args.counts.now c.args.from.0 _ c.if-counts-at.false c.requires.from_in_bounds.2 c.total-pixels.ensures in
    need! w64 (cells c.args.coefficients c.args.heaviest c.args.below c.total-pixels.result c.requires.coefficients_small h) (search signed_code depth 12) tt

pub overflow_mul-result : goal.overflow_mul-result
overflow_mul-result c =
    let h = few c.args.counts.now c.args.from.0 _ c.if-counts-at.false c.requires.from_in_bounds.2 c.total-pixels.ensures in
    need! w64 (cells c.args.coefficients c.args.heaviest c.args.below c.total-pixels.result c.requires.coefficients_small h) (search signed_code depth 12) tt

pub returns : goal.returns
returns c = λ e.
    let h = few c.args.counts.now c.args.from.0 _ c.if-counts-at.false c.requires.from_in_bounds.2 c.total-pixels.ensures in
    let known : List Cell = cells c.args.coefficients c.args.heaviest c.args.below c.total-pixels.result c.requires.coefficients_small h in
    let pixels : c.total-pixels.result ≡ sum_to c.args.counts.now (c.args.from.0 + 16) - sum_to c.args.counts.now c.args.from.0 =
    omega (arith, c.total-pixels.ensures) in
    record {
      whole = c.if-counts-at.false;
      short =
          subst
          (λ (n : ℕ). (pos 2 *ℤ (weight_of c.args.coefficients c.args.below.count c.args.below.sum +ℤ c.args.heaviest *ℤ pos n)) <ℤ c.args.coefficients.total) pixels
          (lt-true (computes w64 known (# 2 ⊗ (x₀ ⊗ x₄ ⊕ x₁ ⊗ x₃ ⊕ var 5 ⊗ var 6)) tt) (computes w64 known x₂ tt) e);
    }
