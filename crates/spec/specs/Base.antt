-- Choices by a test, sums over ranges and rectangles, the first number that passes a test, and lists made place by place.
-- Assumes nothing.
use Rattle.std.specs.Prelude.{ℕ, zero, suc, ◌+◌, ◌-◌, Bool, true, false, List, [], ◌∷◌, ℤ, pos, ◌+ℤ◌, if◌then◌else◌}

-- ---- choices
-- 1 where the test passes, else 0
abbrev pub indicator : Bool → ℕ
indicator true = 1
indicator false = 0

-- n where the test passes, else 0
abbrev pub when : Bool → ℕ → ℕ
when b n = if b then n else 0

-- the size of a − b
abbrev pub distance : ℕ → ℕ → ℕ
distance a b = (a - b) + (b - a)

-- ---- sums: of f at a, a + 1, .. , n numbers in all; and over nx columns from x and ny rows from y
module _ {A : Type 0} (◌⊕◌ : A → A → A) (z : A) where
  infixl 6 ◌⊕◌
  unfoldable pub fold : (ℕ → A) → ℕ → ℕ → A
  fold f a zero = z
  fold f a (suc n) = fold f a n ⊕ f (a + n)

  unfoldable pub fold_rect : (ℕ → ℕ → A) → ℕ → ℕ → ℕ → ℕ → A
  fold_rect f x nx y ny = fold (λ s. fold (λ t. f s t) y ny) x nx

abbrev pub sum : (ℕ → ℕ) → ℕ → ℕ → ℕ
sum = fold ◌+◌ 0

abbrev pub sumℤ : (ℕ → ℤ) → ℕ → ℕ → ℤ
sumℤ = fold ◌+ℤ◌ (pos 0)

-- ---- the smallest i below n that passes the test, or n where none does
unfoldable pub first : (ℕ → Bool) → ℕ → ℕ
first p zero = zero
first p (suc n) = let k = first p n in if p k then k else suc n

-- ---- the list of f at a, a + 1, .. , n elements in all; and from 0 on
unfoldable pub tabulate_from : {A : Type 0} → (ℕ → A) → ℕ → ℕ → List A
tabulate_from f a zero = []
tabulate_from f a (suc n) = f a ∷ tabulate_from f (suc a) n

unfoldable pub tabulate : {A : Type 0} → ℕ → (ℕ → A) → List A
tabulate n f = tabulate_from f 0 n
