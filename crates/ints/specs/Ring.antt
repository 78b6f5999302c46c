-- The kit's ℤ (`lib.IntN`) comes without the laws that join sums and products. This file has them: the product goes over sums and
-- differences, is associative, and takes a sign out. By induction on one more and one less. Assumes nothing.
use Rattle.std.specs.Prelude.{◌≡◌, zero, suc, ℤ, pos, negsuc, neg_ℤ, ◌+ℤ◌, ◌-ℤ◌, ◌*ℤ◌}
use Rattle.std.proofs.Common.{sym, ◌∙◌, ap, ap₂}
use Rattle.std.proofs.Math.IntN.{suc_ℤ, pred_ℤ, one, +ℤ_idl, +ℤ_idr, +ℤ_assoc, +ℤ_comm, +ℤ_invr, +ℤ_invl, suc_ℤ-+ℤ, pred_ℤ-+ℤ, suc_ℤ-*ℤ, pred_ℤ-*ℤ, zero-*ℤ, *ℤ-one, *ℤ_comm}

-- what holds at 0 and passes to the next and to the previous number holds everywhere
induction {ℓ} : (P : ℤ → Type ℓ) → P (pos 0) → ((z : ℤ) → P z → P (suc_ℤ z)) → ((z : ℤ) → P z → P (pred_ℤ z)) → (z : ℤ) → P z
induction P b s p (pos zero) = b
induction P b s p (pos (suc n)) = s (pos n) (induction P b s p (pos n))
induction P b s p (negsuc zero) = p (pos 0) b
induction P b s p (negsuc (suc n)) = p (negsuc n) (induction P b s p (negsuc n))

-- ---- sums
pub +-left-comm : (a b c : ℤ) → a +ℤ (b +ℤ c) ≡ b +ℤ (a +ℤ c)
+-left-comm a b c = sym (+ℤ_assoc a b c) ∙ ap (λ x. x +ℤ c) (+ℤ_comm a b) ∙ +ℤ_assoc b a c

+-right-comm : (a b c : ℤ) → a +ℤ b +ℤ c ≡ a +ℤ c +ℤ b
+-right-comm a b c = +ℤ_assoc a b c ∙ ap (λ x. a +ℤ x) (+ℤ_comm b c) ∙ sym (+ℤ_assoc a c b)

-- ---- the product over a sum
pub add-mul : (a b c : ℤ) → (a +ℤ b) *ℤ c ≡ a *ℤ c +ℤ b *ℤ c
add-mul a b c = induction (λ x. (x +ℤ b) *ℤ c ≡ x *ℤ c +ℤ b *ℤ c)
    (ap (λ x. x *ℤ c) (+ℤ_idl b) ∙ sym (+ℤ_idl (b *ℤ c)) ∙ ap (λ x. x +ℤ b *ℤ c) (sym (zero-*ℤ c)))
    (λ z h.
    ap (λ x. x *ℤ c) (suc_ℤ-+ℤ z b)
    ∙ suc_ℤ-*ℤ (z +ℤ b) c
    ∙ ap (λ x. x +ℤ c) h
    ∙ +-right-comm (z *ℤ c) (b *ℤ c) c
    ∙ ap (λ x. x +ℤ b *ℤ c) (sym (suc_ℤ-*ℤ z c)))
    (λ z h.
    ap (λ x. x *ℤ c) (pred_ℤ-+ℤ z b)
    ∙ pred_ℤ-*ℤ (z +ℤ b) c
    ∙ ap (λ x. x -ℤ c) h
    ∙ +-right-comm (z *ℤ c) (b *ℤ c) (neg_ℤ c)
    ∙ ap (λ x. x +ℤ b *ℤ c) (sym (pred_ℤ-*ℤ z c)))
    a

pub mul-add : (a b c : ℤ) → a *ℤ (b +ℤ c) ≡ a *ℤ b +ℤ a *ℤ c
mul-add a b c = *ℤ_comm a (b +ℤ c) ∙ add-mul b c a ∙ ap₂ (λ x y. x +ℤ y) (*ℤ_comm b a) (*ℤ_comm c a)

-- ---- signs
-- a number is the opposite of what it cancels
cancel : (a b : ℤ) → a +ℤ b ≡ pos 0 → a ≡ neg_ℤ b
cancel a b h = sym (+ℤ_idr a) ∙ ap (λ x. a +ℤ x) (sym (+ℤ_invr b)) ∙ sym (+ℤ_assoc a b (neg_ℤ b)) ∙ ap (λ x. x +ℤ neg_ℤ b) h ∙ +ℤ_idl (neg_ℤ b)

pub neg-mul : (a b : ℤ) → neg_ℤ a *ℤ b ≡ neg_ℤ (a *ℤ b)
neg-mul a b = cancel (neg_ℤ a *ℤ b) (a *ℤ b) (sym (add-mul (neg_ℤ a) a b) ∙ ap (λ x. x *ℤ b) (+ℤ_invl a) ∙ zero-*ℤ b)

pub mul-neg : (a b : ℤ) → a *ℤ neg_ℤ b ≡ neg_ℤ (a *ℤ b)
mul-neg a b = *ℤ_comm a (neg_ℤ b) ∙ neg-mul b a ∙ ap neg_ℤ (*ℤ_comm b a)

sub-mul : (a b c : ℤ) → (a -ℤ b) *ℤ c ≡ a *ℤ c -ℤ b *ℤ c
sub-mul a b c = add-mul a (neg_ℤ b) c ∙ ap (λ x. a *ℤ c +ℤ x) (neg-mul b c)

pub mul-sub : (a b c : ℤ) → a *ℤ (b -ℤ c) ≡ a *ℤ b -ℤ a *ℤ c
mul-sub a b c = mul-add a b (neg_ℤ c) ∙ ap (λ x. a *ℤ b +ℤ x) (mul-neg a c)

-- ---- products of three, and of one
pub mul_assoc : (a b c : ℤ) → (a *ℤ b) *ℤ c ≡ a *ℤ (b *ℤ c)
mul_assoc a b c = induction (λ x. (x *ℤ b) *ℤ c ≡ x *ℤ (b *ℤ c))
    (ap (λ x. x *ℤ c) (zero-*ℤ b) ∙ zero-*ℤ c ∙ sym (zero-*ℤ (b *ℤ c)))
    (λ z h.
    ap (λ x. x *ℤ c) (suc_ℤ-*ℤ z b)
    ∙ add-mul (z *ℤ b) b c
    ∙ ap (λ x. x +ℤ b *ℤ c) h
    ∙ sym (suc_ℤ-*ℤ z (b *ℤ c)))
    (λ z h.
    ap (λ x. x *ℤ c) (pred_ℤ-*ℤ z b)
    ∙ sub-mul (z *ℤ b) b c
    ∙ ap (λ x. x -ℤ b *ℤ c) h
    ∙ sym (pred_ℤ-*ℤ z (b *ℤ c)))
    a

pub mul_left_comm : (a b c : ℤ) → a *ℤ (b *ℤ c) ≡ b *ℤ (a *ℤ c)
mul_left_comm a b c = sym (mul_assoc a b c) ∙ ap (λ x. x *ℤ c) (*ℤ_comm a b) ∙ mul_assoc b a c

pub mul-one : (a : ℤ) → a *ℤ pos 1 ≡ a
unfolding one
mul-one a = *ℤ-one a

pub one-mul : (a : ℤ) → pos 1 *ℤ a ≡ a
one-mul a = *ℤ_comm (pos 1) a ∙ mul-one a
