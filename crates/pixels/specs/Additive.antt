-- A store whose number at q adds up a share of each of the window's pixels, whatever the places q are: fields of a record, cells of a list, a level
-- and a guide. How the numbers are kept is the store's own; how they change with a line, and what they are for a window, is said here once, for
-- natural numbers and for integers.
-- Assumes nothing.
use Rattle.std.specs.Prelude.{◌≡◌, Bool, true, false, List, ℕ, ◌+◌, ◌-◌, ◌≤◌, ◌<◌, ℤ, ◌+ℤ◌, ◌-ℤ◌}
use Rattle.spec.specs.Frame.{Frame, level, guide}
use Rattle.spec.specs.Window.{over}
use Rattle.pixels.specs.declared.Pixel.{Pixel}
use Rattle.pixels.specs.Pixels.{pixel_fold_to, pixel_fold}

-- n more where the pixels enter, n less where they leave
unfoldable pub changed : Bool → ℕ → ℕ → ℕ
changed true a n = a + n
changed false a n = a - n

unfoldable pub changedℤ : Bool → ℤ → ℤ → ℤ
changedℤ true a n = a +ℤ n
changedℤ false a n = a -ℤ n

-- that stays below the limit, or is there to lose
abbrev pub Fits : ℕ → Bool → ℕ → ℕ → Type 0
Fits limit true a n = a + n < limit
Fits limit false a n = n ≤ a

module _ {A : Type 0} (◌⊕◌ : A → A → A) (o : A) {Q : Type 0} (share : Q → ℕ → ℕ → A) where
  infixl 6 ◌⊕◌
  -- a list's first n pixels have entered or left: the numbers were c and are c'
  pub record PassedTo (change : Bool → A → A → A) (w : Bool) (p : List Pixel) (n : ℕ) (c c' : Q → A) : Type 0 where
    pub cells : (q : Q) → c' q ≡ change w (c q) (pixel_fold_to ◌⊕◌ o p (share q) n)

  -- one list has entered, and another has left
  pub record Exchanged (e l : List Pixel) (c c' : Q → A) : Type 0 where
    pub cells : (q : Q) → c' q ⊕ pixel_fold ◌⊕◌ o l (share q) ≡ c q ⊕ pixel_fold ◌⊕◌ o e (share q)

  -- the window at (s, t)
  abbrev pub window_sum : Frame → ℕ → ℕ → Q → A
  window_sum p s t q = over ◌⊕◌ o p s t (λ x y. share q (level p x y) (guide p x y))

-- what an exchange asks of natural numbers: nothing overflows, and what leaves is there
pub record SharesExchangeable {Q : Type 0} (share : Q → ℕ → ℕ → ℕ) (limit : ℕ) (e l : List Pixel) (c : Q → ℕ) : Type 0 where
  pub room : (q : Q) → c q + pixel_fold ◌+◌ 0 e (share q) < limit
  pub there : (q : Q) → pixel_fold ◌+◌ 0 l (share q) ≤ c q + pixel_fold ◌+◌ 0 e (share q)
