-- The column store as blocks of L numbers: block x the counts of column x, block w + x its guide sums, block 2w the window's counts and block 2w + 1
-- its guide sums. A change adds D m i to number i of each block m, or takes it off.
-- Assumes nothing.
use Rattle.std.specs.Prelude.{◌≡◌, Bool, true, false, not, List, ◌⊎◌, ℕ, ◌+◌, ◌-◌, ◌*◌, ◌≤◌, ◌<◌, leb, ltb, eqb, length, get_or, if◌then◌else◌}
use Rattle.std.specs.Prelude.{Option, option_map}
use Rattle.std.specs.Bool.{then_some}
use Rattle.std.specs.Option.{ForSome, option_map_or}
use Rattle.spec.specs.Base.{sum, when}
use Rattle.spec.specs.Frame.{Frame, level, guide}
use Rattle.spec.specs.Window.{span, live}
use Rattle.columns.specs.declared.store.Exchange.{Exchange}

-- the store's length
abbrev pub blocks_size : Frame → ℕ
blocks_size p = 2 * (p.set.width * p.set.levels) + 2 * p.set.levels

-- ys is xs with D put in, or taken out
pub record Put (add : Bool) (l : ℕ) (D : ℕ → ℕ → ℕ) (xs ys : List ℕ) : Type 0 where
  pub len : length ys ≡ length xs
  pub cells : (m i : ℕ) → i < l → get_or ys (m * l + i) 0 + when (not add) (D m i) ≡ get_or xs (m * l + i) 0 + when add (D m i)

-- there is room for D, or enough to take it out
pub record Able (add : Bool) (l : ℕ) (D : ℕ → ℕ → ℕ) (xs : List ℕ) : Type 0 where
  pub room : add ≡ true → (m i : ℕ) → i < l → get_or xs (m * l + i) 0 + D m i < 4294967296
  pub enough : add ≡ false → (m i : ℕ) → i < l → D m i ≤ get_or xs (m * l + i) 0

-- ---- pixels and rows
-- f at the pixel, where its level is i; nothing at a dead pixel
abbrev pub at_level : Frame → (ℕ → ℕ → ℕ) → ℕ → ℕ → ℕ → ℕ
at_level p f x y i = live 0 p (λ u v. if eqb (level p u v) i then f u v else 0) x y

-- F in block a
abbrev pub block : ℕ → (ℕ → ℕ) → ℕ → ℕ → ℕ
block a F m i = if eqb m a then F i else 0

-- a pixel in the counts of block a and the guide sums of block b
unfoldable pub pixel_d : Frame → ℕ → ℕ → ℕ → ℕ → ℕ → ℕ → ℕ
pixel_d p a b x y m i = block a (at_level p (λ u v. 1) x y) m i + block b (at_level p (guide p) x y) m i

-- n pixels of row y from column first on, that of column x in the blocks a + x · apart and b + x · apart
unfoldable pub strip_d : Frame → ℕ → ℕ → ℕ → ℕ → ℕ → ℕ → ℕ → ℕ → ℕ
strip_d p y a b apart first n m i = sum (λ x. pixel_d p (a + x * apart) (b + x * apart) x y m i) first n

-- row y in the whole store of a window at column s: each pixel in its column, those that the window spans in the window
unfoldable pub row_d : Frame → ℕ → ℕ → ℕ → ℕ → ℕ
row_d p s y m i =
    let w = p.set.width in
    let r = p.set.radius in
    strip_d p y 0 w 1 0 w m i + strip_d p y (2 * w) (2 * w + 1) 0 (s - r) (span r s w) m i

-- what the store of the window at (s, t) holds
unfoldable pub content_d : Frame → ℕ → ℕ → ℕ → ℕ → ℕ
content_d p s t m i = sum (λ y. row_d p s y m i) (t - p.set.radius) (span p.set.radius t p.set.height)

-- ---- a move by one among size columns or rows: which one enters and which one leaves, where it is in the picture
unfoldable pub ahead : ℕ → ℕ → ℕ → Exchange
ahead c r size = record { entering = then_some (ltb (c + r + 1) size) (c + r + 1); leaving = then_some (leb r c) (c - r) }

unfoldable pub back : Exchange → Exchange
back d = record { entering = d.leaving; leaving = d.entering }

unfoldable pub exchange_of : ℕ → ℕ → ℕ → ℕ → Exchange
exchange_of c c' r size = if ltb c c' then ahead c r size else back (ahead c' r size)

pub record Neighbours (c c' size : ℕ) : Type 0 where
  pub by_one : (c' ≡ c + 1) ⊎ (c ≡ c' + 1)
  pub in_old : c < size
  pub in_new : c' < size

-- f at the number, if there is one
abbrev pub when_some : Option ℕ → (ℕ → ℕ) → ℕ
when_some x f = option_map_or f x 0

-- the row that enters, and the one that leaves, in the store of a window at column s
unfoldable pub enter_d : Frame → ℕ → Exchange → ℕ → ℕ → ℕ
enter_d p s d m i = when_some d.entering (λ y. row_d p s y m i)

unfoldable pub leave_d : Frame → ℕ → Exchange → ℕ → ℕ → ℕ
leave_d p s d m i = when_some d.leaving (λ y. row_d p s y m i)

-- ---- sideways: ys is xs with D put in and E taken out
pub record Swap (l : ℕ) (D E : ℕ → ℕ → ℕ) (xs ys : List ℕ) : Type 0 where
  pub len : length ys ≡ length xs
  pub cells : (m i : ℕ) → i < l → get_or ys (m * l + i) 0 + E m i ≡ get_or xs (m * l + i) 0 + D m i

-- block a has room for F, and then enough to take G out
pub record BlockReady (l a : ℕ) (F G : ℕ → ℕ) (xs : List ℕ) : Type 0 where
  pub room : (i : ℕ) → i < l → get_or xs (a * l + i) 0 + F i < 4294967296
  pub enough : (i : ℕ) → i < l → G i ≤ get_or xs (a * l + i) 0 + F i

-- number i of a block, if there is one
abbrev pub cell_of : ℕ → Option ℕ → List ℕ → ℕ → ℕ
cell_of l m xs i = when_some m (λ a. get_or xs (a * l + i) 0)

-- the block of a column's guide sums, if there is one
abbrev pub guides_of : ℕ → Option ℕ → Option ℕ
guides_of w x = option_map (λ a. w + a) x

-- column x in the window's two blocks, if there is one
unfoldable pub pair_d : ℕ → ℕ → Option ℕ → List ℕ → ℕ → ℕ → ℕ
pair_d w l x xs m i = block (2 * w) (cell_of l x xs) m i + block (2 * w + 1) (cell_of l (guides_of w x) xs) m i

-- the columns that enter and leave are in the picture
pub record InWidth (w : ℕ) (d : Exchange) : Type 0 where
  pub entering : ForSome d.entering (λ x. x < w)
  pub leaving : ForSome d.leaving (λ x. x < w)

-- the window's two blocks have room for the column that enters, and then enough to lose the one that leaves
pub record SideReady (w l : ℕ) (d : Exchange) (xs : List ℕ) : Type 0 where
  pub counts : BlockReady l (2 * w) (cell_of l d.entering xs) (cell_of l d.leaving xs) xs
  pub guides : BlockReady l (2 * w + 1) (cell_of l (guides_of w d.entering) xs) (cell_of l (guides_of w d.leaving) xs) xs
