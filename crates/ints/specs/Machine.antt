-- What signed code computes. A signed local holds bits, so what the code has of an integer z that it wrote is `stored w z`, which is z
-- where z fits the width w. A proof lists the code's variables as cells, each with a literal bound on its size:
--   param_cell      a signed parameter, field, element, or result of a call
--   result_cell     a call's result, of which the callee's `ensures` says what it is
--   local_cell      bits of which a loop's invariant says what they are
--   unsigned_cell   an unsigned number that was cast
--   let_cell        a `let` of the code, so that what follows does not go through its expression again
-- Then, in proofs/Machine.antt, `need w xs e tt` answers each goal `overflow_add-..`, `overflow_sub-..`, `overflow_mul-..` of the code, and
-- `computes w xs e tt` says that the code has e's value in the end; `let_cell` is there too. `Auto` finds e by itself. Assumes nothing.
use Rattle.std.specs.Prelude.{◌≡◌, Bool, true, false, not, List, ℕ, ◌^◌, ◌≤◌, ◌<◌, T, ltb, ◌≤ℤ◌, ◌<ℤ◌, ℤ, pos, nat_abs, ◌+ℤ◌, ◌-ℤ◌, ◌*ℤ◌}
use Rattle.std.proofs.Common.{sym, ◌∙◌, ap, subst, subst₂, T_not, to_z-of_z}
use Rattle.std.specs.Int.Signed.{le_z, lt_z, non_neg, le_z_yes, lt_z_yes, lt_z_no, yes_non_neg, pos-nat_abs}
use Rattle.std.specs.Int.{Width}
use mir.Val.{Fits, SFits, hbits, bits, to_z, of_z}
use Rattle.ints.specs.Order.{not-≤}
use Rattle.ints.specs.Polynomial.{Expr, var, lit, ◌⊕◌, ◌⊖◌, ◌⊗◌, opposite}
use Rattle.ints.specs.Bound.{sfits-abs, sfits_pos}
use Rattle.ints.specs.Computation.{Variable, Operations, held_at, computed}

-- written, and read back
abbrev pub read_back : Width → ℤ → ℤ
read_back w z = to_z w (of_z w z)

pub read : (w : Width) {z : ℤ} → SFits w z → read_back w z ≡ z
read w f = to_z-of_z f

-- the same of a number with a bound: `read-bounded w64 B h tt`
pub read-bounded : (w : Width) {z : ℤ} (B : ℕ) → nat_abs z ≤ B → T (ltb B (2 ^ hbits w)) → read_back w z ≡ z
read-bounded w B h t = read w (sfits-abs B h t)

-- ---- cells
abbrev pub Cell : Type 0
Cell = Variable ℤ (λ x z. x ≡ z)

-- `param_cell w64 z B h tt`
abbrev pub param_cell : (w : Width) (z : ℤ) (B : ℕ) → nat_abs z ≤ B → T (ltb B (2 ^ hbits w)) → Cell
param_cell w z B h t = record { has = read_back w z; is = z; bound = B; same = read-bounded w B h t; small = h }

-- a call's result r that is z: `result_cell w64 r z B p h tt`
abbrev pub result_cell : (w : Width) (r z : ℤ) (B : ℕ) → r ≡ z → nat_abs z ≤ B → T (ltb B (2 ^ hbits w)) → Cell
result_cell w r z B p h t = record { has = read_back w r; is = z; bound = B; same = ap (read_back w) p ∙ read-bounded w B h t; small = h }

-- bits n that are z: `local_cell w64 n z B (c.loop-k.invariant ..) h`
abbrev pub local_cell : (w : Width) (n : ℕ) (z : ℤ) (B : ℕ) → to_z w n ≡ z → nat_abs z ≤ B → Cell
local_cell w n z B p h = record { has = to_z w n; is = z; bound = B; same = p; small = h }

-- `unsigned_cell w64 n B h tt`
abbrev pub unsigned_cell : (w : Width) (n B : ℕ) → n ≤ B → T (ltb B (2 ^ hbits w)) → Cell
unsigned_cell w n B h t = record { has = to_z w n; is = pos n; bound = B; same = read w (sfits_pos B h t); small = h }

-- ---- the operations: each result is written and read back
abbrev pub signed_ops : Width → Operations ℤ
signed_ops w =
    record {
      literal = λ c. c;
      plus = λ x y. read_back w (x +ℤ y);
      minus = λ x y. read_back w (x -ℤ y);
      times = λ x y. read_back w (x *ℤ y);
      negate = λ x. read_back w (pos 0 -ℤ x);
    }

module _ (w : Width) (xs : List Cell) where
  -- the last operation's result, before it is written
  abbrev pub before_store : Expr → ℤ
  before_store (var i) = held_at (signed_ops w) xs i
  before_store (lit c) = c
  before_store (a ⊕ b) = computed (signed_ops w) xs a +ℤ computed (signed_ops w) xs b
  before_store (a ⊖ b) = computed (signed_ops w) xs a -ℤ computed (signed_ops w) xs b
  before_store (a ⊗ b) = computed (signed_ops w) xs a *ℤ computed (signed_ops w) xs b
  before_store (opposite a) = pos 0 -ℤ computed (signed_ops w) xs a

-- ---- a test of two signed numbers, whose operands e and f are what the code has of x and y
pub lt-true : {e f x y : ℤ} → e ≡ x → f ≡ y → lt_z e f ≡ true → x <ℤ y
lt-true p q t = subst₂ (λ (a b : ℤ). a <ℤ b) p q (lt_z_yes (subst T (sym t) tt))

pub lt-false : {e f x y : ℤ} → e ≡ x → f ≡ y → lt_z e f ≡ false → y ≤ℤ x
lt-false p q t = subst₂ (λ (a b : ℤ). b ≤ℤ a) p q (lt_z_no (subst (λ (b : Bool). T (not b)) (sym t) tt))

pub le-true : {e f x y : ℤ} → e ≡ x → f ≡ y → le_z e f ≡ true → x ≤ℤ y
le-true p q t = subst₂ (λ (a b : ℤ). a ≤ℤ b) p q (le_z_yes (subst T (sym t) tt))

pub le-false : {e f x y : ℤ} → e ≡ x → f ≡ y → le_z e f ≡ false → y <ℤ x
le-false {e} {f} p q t =
    subst₂ (λ (a b : ℤ). b <ℤ a) p q (not-≤ (λ (h : e ≤ℤ f). T_not (le_z e f) (subst (λ (b : Bool). T (not b)) (sym t) tt) h.le))

-- ---- a signed number that is not negative, as an unsigned one: what the cast asks, and the number that it gives
pub unsigned-need : (w : Width) {e z : ℤ} → e ≡ z → pos 0 ≤ℤ z → nat_abs z < 2 ^ bits w → T (non_neg e) × Fits w (nat_abs e)
unsigned-need w p h l = subst (λ (x : ℤ). T (non_neg x) × Fits w (nat_abs x)) (sym p) (yes_non_neg h, record { fits = l })

pub unsigned-value : {e z : ℤ} → e ≡ z → pos 0 ≤ℤ z → pos (nat_abs e) ≡ z
unsigned-value {e} {z} p h = ap (λ (x : ℤ). pos (nat_abs x)) p ∙ pos-nat_abs z (yes_non_neg h)
