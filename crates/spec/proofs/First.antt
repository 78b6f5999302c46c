-- The first number that passes a test is the one below which none does; a list made place by place has its places.
-- Assumes nothing.
use mathlib.Core.Path.{◌≡◌, refl, sym, ap, ap₂, ◌∙◌}
use mathlib.Core.List.{List, ◌∷◌, ◌++◌}
use mathlib.Core.Bool.{Bool, true, false, true≢false}
use native.Mathlib.Decide.{dec_lt}
use Prim.Native.Nat.{ℕ, zero, suc, ◌+◌, ◌≤◌, ◌<◌}
use native.Mathlib.Nat.{add-zero, zero-add, add-suc, suc-add, not-suc-le-zero, le_of_suc-le-suc}
use native.Mathlib.Omega.{arith}
use lib.ListN.{length, get_or}
use Rattle.std.specs.Prelude.{if◌then◌else◌}
use Rattle.spec.specs.Base.{first, tabulate_from, tabulate}

-- first p n passes the test where it is below n, is at most n, and every number below it fails
pub record First (p : ℕ → Bool) (n k : ℕ) : Type 0 where
  pub within : k ≤ n
  pub passes : k < n → p k ≡ true
  pub before : (j : ℕ) → j < k → p j ≡ false

clash : {A : Type 0} {b : Bool} → b ≡ true → b ≡ false → A
clash t f = absurd (true≢false (sym t ∙ f))

next : (p : ℕ → Bool) (n k : ℕ) (b : Bool) → p k ≡ b → First p n k → First p (suc n) (if b then k else suc n)
next p n k true e h = record { within = omega (arith, h.within); passes = λ l. e; before = h.before }
next p n k false e h = record { within = omega arith; passes = λ l. absurd (omega arith); before = λ j l. below j l (dec_lt j k) (dec_lt k n) }
  where
    below : (j : ℕ) → j < suc n → Dec (j < k) → Dec (k < n) → p j ≡ false
    below j l (yes y) d = h.before j y
    below j l (no y) (yes d) = clash (h.passes d) e
    below j l (no y) (no d) = let same : j ≡ k = omega (arith, h.within) in rw same e

pub first-is : (p : ℕ → Bool) (n : ℕ) → First p n (first p n)
unfolding first
first-is p zero = record { within = omega arith; passes = λ l. absurd (omega arith); before = λ j l. absurd (omega arith) }
first-is p (suc n) = next p n (first p n) (p (first p n)) refl (first-is p n)

pub First-unique : (p : ℕ → Bool) (n j k : ℕ) → First p n j → First p n k → j ≡ k
First-unique p n j k g h = go (dec_lt j k) (dec_lt k j)
  where
    go : Dec (j < k) → Dec (k < j) → j ≡ k
    go (yes y) d = clash (g.passes (omega (arith, h.within))) (h.before j y)
    go (no x) (yes y) = clash (h.passes (omega (arith, g.within))) (g.before k y)
    go (no x) (no y) = omega arith

pub first-unique : (p : ℕ → Bool) (n k : ℕ) → First p n k → first p n ≡ k
first-unique p n k h = First-unique p n (first p n) k (first-is p n) h

-- ---- lists made place by place
pub length-list_from : {A : Type 0} (f : ℕ → A) (a n : ℕ) → length (tabulate_from f a n) ≡ n
unfolding tabulate_from
length-list_from f a zero = refl
length-list_from f a (suc n) = ap suc (length-list_from f (suc a) n)

pub get_or-list_from : {A : Type 0} (f : ℕ → A) (a n k : ℕ) (d : A) → k < n → get_or (tabulate_from f a n) k d ≡ f (a + k)
unfolding tabulate_from
get_or-list_from f a zero k d h = absurd (not-suc-le-zero h)
get_or-list_from f a (suc n) zero d h = ap f (sym (add-zero a))
get_or-list_from f a (suc n) (suc k) d h = get_or-list_from f (suc a) n k d (le_of_suc-le-suc h) ∙ ap f (suc-add a k ∙ sym (add-suc a k))

pub length-tabulate : {A : Type 0} (n : ℕ) (f : ℕ → A) → length (tabulate n f) ≡ n
unfolding tabulate
length-tabulate n f = length-list_from f 0 n

pub get_d_tabulate : {A : Type 0} (n : ℕ) (f : ℕ → A) (k : ℕ) (d : A) → k < n → get_or (tabulate n f) k d ≡ f k
unfolding tabulate
get_d_tabulate n f k d h = get_or-list_from f 0 n k d h ∙ ap f (zero-add k)

-- so many places and then so many more
list_from-add : {A : Type 0} (f : ℕ → A) (a n m : ℕ) → tabulate_from f a (n + m) ≡ tabulate_from f a n ++ tabulate_from f (a + n) m
unfolding tabulate_from
list_from-add f a zero m = ap₂ (tabulate_from f) (sym (add-zero a)) (zero-add m)
list_from-add f a (suc n) m =
    ap (tabulate_from f a) (suc-add n m)
    ∙ ap (λ (l : List _). f a ∷ l) (list_from-add f (suc a) n m ∙ ap (λ (b : ℕ). tabulate_from f (suc a) n ++ tabulate_from f b m)
    (suc-add a n ∙ sym (add-suc a n)))

list_from-moved : {A : Type 0} (f : ℕ → A) (b a n : ℕ) → tabulate_from f (b + a) n ≡ tabulate_from (λ k. f (b + k)) a n
unfolding tabulate_from
list_from-moved f b a zero = refl
list_from-moved f b a (suc n) =
    ap (λ (l : List _). f (b + a) ∷ l) (ap (λ (k : ℕ). tabulate_from f k n) (sym (add-suc b a)) ∙ list_from-moved f b (suc a) n)

pub tabulate-add : {A : Type 0} (n m : ℕ) (f : ℕ → A) → tabulate (n + m) f ≡ tabulate n f ++ tabulate m (λ k. f (n + k))
unfolding tabulate
tabulate-add n m f =
    list_from-add f 0 n m
    ∙ ap (λ (l : List _). tabulate_from f 0 n ++ l)
    (ap (λ (k : ℕ). tabulate_from f k m) (zero-add n ∙ sym (add-zero n)) ∙ list_from-moved f n 0 m)
