-- Way 3, chain: the window's levels in a linked list, ascending, each once with its count and guide sum.
-- Assumes nothing.
use Rattle.std.specs.Prelude.{ℕ, zero, suc, ◌+◌, ◌-◌, ◌*◌, ◌≤◌, ◌<◌, ◌≡◌, List, [], ◌∷◌, ◌++◌, eqb, get_or, if◌then◌else◌}
use Rattle.spec.specs.declared.Settings.{Settings}
use Rattle.spec.specs.Frame.{Frame, level, guide}
use Rattle.spec.specs.Window.{level_sum}

pub record Entry : Type 0 where
  pub level : ℕ
  pub count : ℕ
  pub guides : ℕ

-- the entry of level i, if the window has that level
unfoldable pub entry_of : Frame → ℕ → ℕ → ℕ → List Entry
entry_of p s t i =
    let n = level_sum p s t (λ x y. 1) i in
    if eqb n 0 then [] else record { level = i; count = n; guides = level_sum p s t (guide p) i } ∷ []

-- those of the levels below n, ascending
unfoldable pub entries : Frame → ℕ → ℕ → ℕ → List Entry
entries p s t zero = []
entries p s t (suc n) = entries p s t n ++ entry_of p s t n

abbrev pub node_count : Settings → ℕ
node_count settings = (2 * settings.radius + 1) * (2 * settings.radius + 1)

-- node j of a store: level, count, guide sum and next stand at 4j − 3 to 4j. Read from node j on, a store of n nodes gives the entries
unfoldable pub Reads : ℕ → List ℕ → ℕ → List Entry → Type 0
Reads n m j [] = j ≡ 0
Reads n m j (e ∷ es) =
    (0 < j) × (j ≤ n) × (get_or m (4 * j - 3) 0 ≡ e.level) × (get_or m (4 * j - 2) 0 ≡ e.count) × (get_or m (4 * j - 1) 0 ≡ e.guides)
    × Reads n m (get_or m (4 * j) 0) es

-- the store gives the window's entries; which node holds which level, and unused nodes, are free
unfoldable pub ChainStore : Frame → ℕ → ℕ → List ℕ → Type 0
ChainStore p s t m = Reads (node_count p.set) m (get_or m 0 0) (entries p s t p.set.levels)
