-- A list of pixels that enters the window or leaves it: what it asks of the stores and the box, and what they hold afterwards. The counts and the
-- box are apart, so that a way without a box has the counts alone.
-- Assumes nothing.
use Rattle.std.specs.Prelude.{◌≡◌, Bool, true, List, ℕ, ◌+◌, ◌-◌, ◌*◌, ◌^◌, ◌≤◌, ◌<◌, length, get_or, drop, ℤ, pos, nat_abs, ◌+ℤ◌}
use Rattle.pixels.specs.declared.Pixel.{Pixel}
use Rattle.pixels.specs.Pixels.{pixel_fold_to, pixel_fold, PixelsBelow}
use Rattle.pixels.specs.Additive.{changed, changedℤ, Fits, PassedTo, Exchanged}
use Rattle.joint_pixel.specs.Store.{cell_at, words_per, count_in, hit, Rep}
use Rattle.joint_pixel.specs.Side.{side_of}

-- of a list's first n pixels: those of level i and guide f
abbrev pub list_count : List Pixel → ℕ → ℕ → ℕ → ℕ
list_count p n i f = pixel_fold_to ◌+◌ 0 p (λ v g. hit v g i f) n

-- cell f of the box
abbrev pub box_at : List ℤ → ℕ → ℤ
box_at bx f = get_or bx f (pos 0)

-- stores of some number of levels and m guides, whose bits are those of their counts, and a list of such pixels with room for it, or with it to lose
pub record Countable (w : Bool) (m : ℕ) (p : List Pixel) (xs ws : List ℕ) : Type 0 where
  pub levels : ℕ
  pub levels_high : levels ≤ 1024
  pub guides_high : m ≤ 256
  pub cells : levels * m ≤ length xs
  pub words : levels * words_per m ≤ length ws
  pub held : Rep levels m (count_in m xs) xs ws
  pub below : PixelsBelow levels m p
  pub fits : (i f : ℕ) → i < levels → f < m → Fits 65536 w (get_or xs (cell_at m i f) 0) (pixel_fold ◌+◌ 0 p (λ v g. hit v g i f))

-- the box has 256 cells, each with room for n pixels
pub record BoxRoom (n : ℕ) (bx : List ℤ) : Type 0 where
  pub long : length bx ≡ 256
  pub room : (f : ℕ) → nat_abs (box_at bx f) + n ≤ 32767

-- stores of l levels and m guides that differ in the stated part alone
pub record RestKept (l m : ℕ) (xs ws xs' ws' : List ℕ) : Type 0 where
  pub long : length xs' ≡ length xs
  pub long_words : length ws' ≡ length ws
  pub rest : drop (l * m) xs' ≡ drop (l * m) xs
  pub rest_words : drop (l * words_per m) ws' ≡ drop (l * words_per m) ws

-- the list's first n pixels have entered or left the stores
pub record CountsPassed (w : Bool) (l m : ℕ) (p : List Pixel) (n : ℕ) (xs ws xs' ws' : List ℕ) : Type 0 where
  pub kept : RestKept l m xs ws xs' ws'
  pub held : Rep l m (λ i f. changed w (count_in m xs i f) (list_count p n i f)) xs' ws'

-- and the box at the cut point c
pub record BoxPassed (w : Bool) (c : ℕ) (p : List Pixel) (n : ℕ) (bx bx' : List ℤ) : Type 0 where
  pub long : length bx' ≡ length bx
  pub passed : PassedTo ◌+ℤ◌ (pos 0) (side_of c) changedℤ w p n (box_at bx) (box_at bx')

-- ---- one list in, another out

-- stores of some number of levels and m guides, with room for the entering list, and then with the leaving one to lose
pub record Exchangeable (m : ℕ) (e l : List Pixel) (xs ws : List ℕ) : Type 0 where
  pub entering : Countable true m e xs ws
  pub leaving : PixelsBelow entering.levels m l
  pub there : (i f : ℕ) → i < entering.levels → f < m
      → pixel_fold ◌+◌ 0 l (λ v g. hit v g i f) ≤ count_in m xs i f + pixel_fold ◌+◌ 0 e (λ v g. hit v g i f)

pub record CountsExchanged (n m : ℕ) (e l : List Pixel) (xs ws xs' ws' : List ℕ) : Type 0 where
  pub kept : RestKept n m xs ws xs' ws'
  pub held : Rep n m (λ i f. count_in m xs i f + pixel_fold ◌+◌ 0 e (λ v g. hit v g i f) - pixel_fold ◌+◌ 0 l (λ v g. hit v g i f)) xs' ws'
  pub fits : (k : ℕ) → get_or ws' k 0 < 2 ^ 64

pub record BoxExchanged (c : ℕ) (e l : List Pixel) (bx bx' : List ℤ) : Type 0 where
  pub long : length bx' ≡ length bx
  pub exchanged : Exchanged ◌+ℤ◌ (pos 0) (side_of c) e l (box_at bx) (box_at bx')
