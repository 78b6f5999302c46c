-- The climb along the list: the running count and guide sum are those of all levels up to the node; and the level it ends at is the window's median.
-- Assumes nothing.
use mathlib.Core.Path.{◌≡◌, refl, sym, ap, ap₂, ◌∙◌}
use mathlib.Core.Logic.{⊎_elim}
use mathlib.Core.Bool.{Bool, true, false, true≢false}
use mathlib.Core.List.{List, [], ◌∷◌}
use Prim.Native.Nat.{ℕ, zero, suc, ◌+◌, ◌-◌, ◌*◌, ◌≤◌, ◌<◌}
use native.Mathlib.Omega.{arith}
use lib.ListN.{length, get_or}
use lib.IntN.{ℤ, pos, ◌+ℤ◌, ◌*ℤ◌}
use lib.Signed.{◌<ℤ◌, le_z}
use Rattle.ints.specs.Order.{lt-or-le}
use Rattle.ints.specs.Auto.{quote, ring! }
use Rattle.spec.specs.Base.{first}
use Rattle.spec.specs.Frame.{Frame, guide}
use Rattle.spec.specs.Window.{level_sum}
use Rattle.spec.specs.Median.{total_weight, cumulative, median}
use Rattle.spec.proofs.First.{first-is, first-unique}
use Rattle.spec.proofs.Limits.{Pixel}
use Rattle.spec.proofs.Levels.{cumulative-linear}
use Rattle.spec.proofs.Totals.{lt-le_z, median-first}
use Rattle.spec.proofs.Sums.{sum-none, sum-suc}
use Rattle.window_weights.specs.declared.coefficients.Coefficients.{Coefficients}
use Rattle.window_weights.specs.Coefficients.{WeighsAt, reaches_half}
use Rattle.chain_nodes.specs.Nodes.{node_level, node_pixels, node_guides, node_next}
use Rattle.chain_list.specs.Chain.{Used, floor, Live, Successor, sum_below}
use Rattle.chain_list.proofs.SumLaws.{zero-or-pos, sum_mono, sum-flat}
use Rattle.chain_list.proofs.ChainLaws.{floor-pos, floor-zero}
use Rattle.chain_search.specs.Climb.{reaches_at, Climbs}

-- ---- nothing does not reach a positive number
nothing : (c d : ℤ) → pos 2 *ℤ (c *ℤ pos 0 +ℤ d *ℤ pos 0) ≡ pos 0
nothing c d = ring! (c ∷ d ∷ []) (search quote depth 12) (search quote depth 12) refl

reach-none : (w : Coefficients) → pos 0 <ℤ w.total → reaches_half w 0 0 ≡ false
unfolding reaches_half
reach-none w h = ap (le_z w.total) (nothing w.slope w.offset) ∙ lt-le_z h

-- ---- the measure: how many levels are ahead
pub ahead : ℕ → List ℕ → ℕ → ℕ
ahead l m zero = 0
ahead l m (suc k) = l - node_level m (suc k)

ahead-pos : (l : ℕ) (m : List ℕ) (k : ℕ) → 0 < k → ahead l m k ≡ l - node_level m k
unfolding ahead
ahead-pos l m zero p = absurd (omega arith)
ahead-pos l m (suc k) p = refl

ahead-zero : (l : ℕ) (m : List ℕ) → ahead l m 0 ≡ 0
unfolding ahead
ahead-zero l m = refl

-- ---- the state at a turn: all before the node cur is summed, and none of it reaches the weight sum
pub record Climbing (l : ℕ) (m : List ℕ) (w : Coefficients) (a : Climbs l w m) (count sum cur : ℕ) : Type 0 where
  pub y : ℕ
  pub live : Live a.cap m y
  pub next : cur ≡ node_next m y
  pub counted : count ≡ sum_below a.cnt (floor m y)
  pub summed : sum ≡ sum_below a.sm (floor m y)
  pub short : reaches_half w count sum ≡ false
  pub under : (j : ℕ) → j < floor m y → reaches_at a.cnt a.sm w j ≡ false

module _ (l : ℕ) (m : List ℕ) (w : Coefficients) (a : Climbs l w m) where
  pub climb-start : pos 0 <ℤ w.total → Climbing l m w a 0 0 (node_next m 0)
  climb-start h = record {
    y = 0;
    live = λ p. absurd (omega arith);
    next = refl;
    counted = sym (ap (sum_below a.cnt) (floor-zero m) ∙ sum-none a.cnt);
    summed = sym (ap (sum_below a.sm) (floor-zero m) ∙ sum-none a.sm);
    short = reach-none w h;
    under = λ j q. absurd (omega (arith, floor-zero m));
  }

  module _ (count sum cur : ℕ) (s : Climbing l m w a count sum cur) where
    goes : Successor a.cap m (floor m s.y) cur
    goes = rw s.next (a.chain.shape.next s.y s.live)

    -- no level between
    gap : (j : ℕ) → floor m s.y ≤ j → (0 < cur → j < node_level m cur) → a.cnt j ≡ 0
    gap j h n =
        ⊎_elim (λ e. e)
        (λ p. absurd (
        let k = a.chain.found j p in
        let r = goes.least k.0 k.1 (omega (arith, k.2)) in
        omega (arith, r.1, n r.0, k.2)))
        (zero-or-pos (a.cnt j))

    flat : (n : ℕ) → floor m s.y ≤ n → (0 < cur → n ≤ node_level m cur) → (sum_below a.cnt n ≡ count) × (sum_below a.sm n ≡ sum)
    flat n h q = (
      sum-flat a.cnt (floor m s.y) n h (λ j p r. gap j p (λ w. omega (arith, q w))) ∙ sym s.counted,
      sum-flat a.sm (floor m s.y) n h (λ j p r. a.chain.empty j (gap j p (λ w. omega (arith, q w)))) ∙ sym s.summed,
    )

    -- up to the node nothing reaches it
    before : (j : ℕ) → (0 < cur → j < node_level m cur) → reaches_at a.cnt a.sm w j ≡ false
    before j q =
        ⊎_elim (s.under j)
        (λ h. let f = flat (suc j) (omega arith) (λ w. omega (arith, q w)) in ap₂ (reaches_half w) f.0 f.1 ∙ s.short)
        (lt-or-le j (floor m s.y))

    -- some level reaches it, so the list does not end before one that does
    pub climb-goes : 0 < cur
    climb-goes =
        ⊎_elim
        (λ e. absurd
        (true≢false
        (sym ((first-is (reaches_at a.cnt a.sm w) l).passes a.some) ∙ before (first (reaches_at a.cnt a.sm w) l)
        (λ p. absurd (omega arith)))))
        (λ p. p) (zero-or-pos cur)

    pub cur-in : 4 * cur < length m
    cur-in = ⊎_elim (λ e. omega (arith, a.chain.shape.size)) (λ p. omega (arith, (goes.is p).to, a.chain.shape.size)) (zero-or-pos cur)

    module _ (p : 0 < cur) where
      used : Used a.cap m cur
      used = goes.is p

      pub cur-level : node_level m cur < l
      cur-level = a.chain.below (node_level m cur) (omega (arith, a.chain.counts cur used, used.some))

      count_next : count + node_pixels m cur ≡ sum_below a.cnt (suc (node_level m cur))
      count_next =
          omega (arith, (flat (node_level m cur) (goes.from p) (λ w. omega arith)).0, a.chain.counts cur used, sum-suc a.cnt (node_level m cur))

      sum-next : sum + node_guides m cur ≡ sum_below a.sm (suc (node_level m cur))
      sum-next =
          omega (arith, (flat (node_level m cur) (goes.from p) (λ w. omega arith)).1, a.chain.sums cur used, sum-suc a.sm (node_level m cur))

      pub count_small : count + node_pixels m cur ≤ 961
      count_small = omega (arith, count_next, sum_mono a.cnt (suc (node_level m cur)) l cur-level, a.few)

      pub sum-small : sum + node_guides m cur ≤ 245055
      sum-small = omega (arith, sum-next, sum_mono a.sm (suc (node_level m cur)) l cur-level, a.light)

      at-node : (b : Bool) → reaches_half w (count + node_pixels m cur) (sum + node_guides m cur) ≡ b →
          reaches_at a.cnt a.sm w (node_level m cur) ≡ b
      at-node b e = ap₂ (reaches_half w) (sym count_next) (sym sum-next) ∙ e

      pub climb-here : reaches_half w (count + node_pixels m cur) (sum + node_guides m cur) ≡ true →
          node_level m cur ≡ first (reaches_at a.cnt a.sm w) l
      climb-here e =
          sym
          (first-unique (reaches_at a.cnt a.sm w) l (node_level m cur)
          (record { within = omega (arith, cur-level); passes = λ h. at-node true e; before = λ j h. before j (λ w. h) }))

      above : floor m cur ≡ suc (node_level m cur)
      above = floor-pos m cur p

      pub climb-next : reaches_half w (count + node_pixels m cur) (sum + node_guides m cur) ≡ false →
          Climbing l m w a (count + node_pixels m cur) (sum + node_guides m cur) (node_next m cur)
      climb-next e = record {
        y = cur;
        live = λ q. used;
        next = refl;
        counted = count_next ∙ ap (sum_below a.cnt) (sym above);
        summed = sum-next ∙ ap (sum_below a.sm) (sym above);
        short = e;
        under = λ j h. ⊎_elim (λ w. before j (λ q. w)) (λ w. at-cur j (omega (arith, above))) (lt-or-le j (node_level m cur));
      }
        where
          at-cur : (j : ℕ) → j ≡ node_level m cur → reaches_at a.cnt a.sm w j ≡ false
          at-cur j z = rw z (at-node false e)

      pub ahead-less : (most : ℕ) → l ≤ most → ahead most m (node_next m cur) < ahead most m cur
      ahead-less most h =
          ⊎_elim
          (λ z. let w : ahead most m (node_next m cur) ≡ 0 = ap (ahead most m) z ∙ ahead-zero most m in
          omega (arith, ahead-pos most m cur p, cur-level))
          (λ q. omega (
            arith,
            ahead-pos most m cur p,
            ahead-pos most m (node_next m cur) q,
            cur-level,
            above,
            (a.chain.shape.next cur (λ w. used)).from q,
          ))
          (zero-or-pos (node_next m cur))

  -- the last node: none before it reaches it, so it does
  pub climb-last : (count sum cur : ℕ) → Climbing l m w a count sum cur → 0 < cur → node_next m cur ≡ 0 →
      node_level m cur ≡ first (reaches_at a.cnt a.sm w) l
  climb-last count sum cur s p z = go (reaches_half w (count + node_pixels m cur) (sum + node_guides m cur)) refl
    where
      go : (b : Bool) → reaches_half w (count + node_pixels m cur) (sum + node_guides m cur) ≡ b →
          node_level m cur ≡ first (reaches_at a.cnt a.sm w) l
      go true e = climb-here count sum cur s p e
      go false e = absurd (omega (arith, climb-goes _ _ _ (climb-next count sum cur s p e)))

-- ---- the same at the place of a node, next being the one after it
pub record AtNode (l : ℕ) (m : List ℕ) (w : Coefficients) (a : Climbs l w m) (count sum at next : ℕ) : Type 0 where
  pub cur : ℕ
  pub state : Climbing l m w a count sum cur
  pub place : at ≡ 4 * cur
  pub goes : next ≡ node_next m cur

pub first-in : {l : ℕ} {m : List ℕ} {w : Coefficients} (a : Climbs l w m) → pos 0 <ℤ w.total → 4 * node_next m 0 < length m
first-in {l} {m} {w} a h = cur-in l m w a _ _ _ (climb-start l m w a h)

module _ {l : ℕ} {m : List ℕ} {w : Coefficients} {a : Climbs l w m} where
  pub node-start : pos 0 <ℤ w.total → {at : ℕ} → at ≡ 4 * node_next m 0 → AtNode l m w a 0 0 at (get_or m at 0)
  node-start h e = record { cur = node_next m 0; state = climb-start l m w a h; place = e; goes = ap (λ (x : ℕ). get_or m x 0) e }

  module _ {count sum at next : ℕ} (s : AtNode l m w a count sum at next) where
    there : 0 < s.cur
    there = climb-goes l m w a _ _ _ s.state

    pub node-from : 4 ≤ at
    node-from = omega (arith, s.place, there)

    pub node_in : at < length m
    node_in = omega (arith, s.place, cur-in l m w a _ _ _ s.state)

    pub node-count : count + get_or m (at - 2) 0 ≤ 961
    node-count = rw s.place (count_small l m w a _ _ _ s.state there)

    pub node-sum : sum + get_or m (at - 1) 0 ≤ 245055
    node-sum = rw s.place (sum-small l m w a _ _ _ s.state there)

    pub node-level : get_or m (at - 3) 0 < l
    node-level = rw s.place (cur-level l m w a _ _ _ s.state there)

    pub node-last : next ≡ 0 → get_or m (at - 3) 0 ≡ first (reaches_at a.cnt a.sm w) l
    node-last z = rw s.place (climb-last l m w a _ _ _ s.state there (sym s.goes ∙ z))

    module _ {b : Bool} (e : reaches_half w (count + get_or m (at - 2) 0) (sum + get_or m (at - 1) 0) ≡ b) where
      tested : reaches_half w (count + node_pixels m s.cur) (sum + node_guides m s.cur) ≡ b
      tested = rw s.place at e

      pub node-here : b ≡ true → get_or m (at - 3) 0 ≡ first (reaches_at a.cnt a.sm w) l
      node-here t = rw s.place (climb-here l m w a _ _ _ s.state there (tested ∙ t))

      module _ (f : b ≡ false) where
        after : Climbing l m w a (count + get_or m (at - 2) 0) (sum + get_or m (at - 1) 0) next
        after = rw (s.place, s.goes) (climb-next l m w a _ _ _ s.state there (tested ∙ f))

        pub next-in : 4 * next < length m
        next-in = cur-in l m w a _ _ _ after

        module _ {at' : ℕ} (g : at' ≡ 4 * next) where
          pub node-next : AtNode l m w a (count + get_or m (at - 2) 0) (sum + get_or m (at - 1) 0) at' (get_or m at' 0)
          node-next = record { cur = next; state = after; place = g; goes = ap (λ (x : ℕ). get_or m x 0) g }

          pub node-less : (most : ℕ) → l ≤ most → ahead most m (get_or m at' 0) < ahead most m next
          node-less most h = rw g (ahead-less l m w a _ _ _ after (climb-goes l m w a _ _ _ after) most h)

-- what a turn reads, at the list that the caller showed
pub record Bounds (m : List ℕ) (count sum at : ℕ) : Type 0 where
  pub from : 4 ≤ at
  pub inside : at < length m
  pub few : count + get_or m (at - 2) 0 ≤ 961
  pub light : sum + get_or m (at - 1) 0 ≤ 245055
  pub level : get_or m (at - 3) 0 < 1024

pub bounds : {m : List ℕ} {w : Coefficients} {count sum at next : ℕ} → ((l : ℕ) → l ≤ 1024 → (a : Climbs l w m) → AtNode l m w a count sum at next)
    → (l : ℕ) × (l ≤ 1024) × Climbs l w m → Bounds m count sum at
bounds h (l, low, a) =
    let s = h l low a in
    record { from = node-from s; inside = node_in s; few = node-count s; light = node-sum s; level = omega (arith, node-level s) }

-- ---- the weight of the levels up to i, by their count and their guide sum
module _ {p : Frame} {s t : ℕ} (q : Pixel p s t) (two : p.set.kind ≡ 2) where
  abbrev cnt : ℕ → ℕ
  cnt = level_sum p s t (λ x y. 1)

  abbrev sm : ℕ → ℕ
  sm = level_sum p s t (guide p)

  same_test : (w : Coefficients) → WeighsAt p s t w → (i : ℕ) → le_z (total_weight p s t) (pos 2 *ℤ cumulative p s t i) ≡ reaches_at cnt sm w i
  unfolding reaches_half
  same_test w v i = rw (v.total, v.slope, v.offset) (ap (λ (u : ℤ). le_z (total_weight p s t) (pos 2 *ℤ u)) (cumulative-linear q two i))

  -- where the climb ends is the median
  pub climb-median : (w : Coefficients) → WeighsAt p s t w → first (reaches_at cnt sm w) p.set.levels ≡ median p s t
  climb-median w v =
      let m = median-first p s t in
      first-unique (reaches_at cnt sm w) p.set.levels (median p s t)
      (record {
        within = m.within;
        passes = λ h. sym (same_test w v (median p s t)) ∙ m.passes h;
        before =
            λ j h. sym (same_test w v j) ∙ m.before j h;
      })
