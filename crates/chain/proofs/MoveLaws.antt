-- A step's two lists of pixels, one out and one in; the list of a window column by column, and from a window to its neighbour.
-- Assumes nothing.
use mathlib.Core.Path.{◌≡◌, refl, sym, ap, ◌∙◌, subst}
use mathlib.Core.Bool.{true, false}
use mathlib.Core.List.{List, []}
use Prim.Native.Nat.{ℕ, ◌+◌, ◌-◌, ◌*◌, ◌≤◌, ◌<◌}
use native.Mathlib.Omega.{arith}
use lib.ListN.{length, get_or}
use Rattle.spec.specs.declared.Plan.{Plan}
use Rattle.spec.specs.Frame.{frame_of}
use Rattle.spec.specs.Checks.{Planned}
use Rattle.spec.specs.Window.{span, pixel_count, level_sum}
use Rattle.spec.specs.Chain.{node_count, ChainStore, Reads, entries}
use Rattle.spec.specs.Calls.{room_of}
use Rattle.spec.proofs.Plans.{facts, pixel-of}
use Rattle.spec.proofs.Ranges.{nat_sums, fold-both, fold-parts}
use Rattle.spec.proofs.Sums.{sum-le}
use Rattle.spec.proofs.Bounds.{pixel_count-nodes, guides_of-high}
use Rattle.window.specs.declared.line.Line.{Line}
use Rattle.window.specs.declared.line.Step.{Step}
use Rattle.window.specs.Line.{column_line, step_of, Adjacent, line_fold}
use Rattle.window.proofs.FormLaws.{both-in}
use Rattle.window.proofs.LineLaws.{fold-none, fold_more, columns-law}
use Rattle.pixels.specs.declared.Pixel.{Pixel}
use Rattle.pixels.specs.Pixels.{count_of, pixel_fold, columns_fold, PixelsBelow, LinePixels}
use Rattle.pixels.proofs.AdditiveLaws.{stepped}
use Rattle.pixels.proofs.SumLaws.{below-most}
use Rattle.chain_nodes.specs.declared.FreeList.{FreeList}
use Rattle.chain_list.specs.Chain.{sum_below, Beyond, ChainCleared, Size, ListOf}
use Rattle.chain.specs.Lines.{nodes_of, list_size, counted, guided, line_count, line_guides, with_counts, with_guides, MergeableLine, MergedLine}
use Rattle.chain.specs.Moves.{level_counts, level_guides, Listed, store_size, Stored, Slides, Slid}
use Rattle.chain_list.proofs.SumLaws.{sum-ext}
use Rattle.chain.proofs.MergeLaws.{chain-ext}
use Rattle.chain.proofs.LineLaws.{cap-is, levels-is, cap-few, lacking, line-total, line-mixed}
use Rattle.chain.proofs.ReadLaws.{chain-reads, rest-kept}
use Rattle.chain.proofs.WindowLaws.{level-total, window, window-mixed, leaving-part}

-- counts and guide sums that are the same level by level
list_ext : (z : Size) (cnt sm cnt' sm' : ℕ → ℕ) (free : FreeList) (m : List ℕ) → ListOf z cnt sm free m → ((i : ℕ) → cnt i ≡ cnt' i) →
    ((i : ℕ) → sm i ≡ sm' i) → ListOf z cnt' sm' free m
list_ext z cnt sm cnt' sm' free m c p q = chain-ext z.cap z.levels free.head free.count cnt sm cnt' sm' m c p q

-- ---- one list of pixels out, another in
module _ {e l : List Pixel} {free : FreeList} {m : List ℕ} where
  pub slide-removable : Slides e l free m → MergeableLine false l free m
  slide-removable a =
      record { size = a.size; small = a.small; below = a.leaving; cnt = a.cnt; sm = a.sm; chain = a.chain; ready = a.none_left }

  module _ {kept : FreeList} {m₁ : List ℕ} (o : MergedLine false l free m kept m₁) where
    pub slide-insertable : Slides e l free m → MergeableLine true e kept m₁
    unfolding slide-removable
    slide-insertable a =
        record {
          size = a.size;
          small = a.small;
          below = a.entering;
          cnt = a.cnt;
          sm = a.sm;
          chain = o.chain (slide-removable a);
          ready =
              a.ready;
        }

    pub slide-slid : {free' : FreeList} {m' : List ℕ} → MergedLine true e kept m₁ free' m' → Slid e l free m free' m'
    unfolding slide-insertable slide-removable
    slide-slid i = record {
      beyond = λ a j b. i.beyond (slide-insertable a) j b ∙ o.beyond (slide-removable a) j b;
      chain = λ a. i.chain (slide-insertable a);
    }

-- ---- the window
-- a sum over the window's first k columns
abbrev columns_to : List ℕ → Plan → ℕ → ℕ → (ℕ → ℕ → ℕ) → ℕ → ℕ
columns_to b z s t h k = columns_fold ◌+◌ 0 b [] z (s - z.radius) t h k

-- their list
abbrev pub ColumnsListed : List ℕ → Plan → ℕ → ℕ → ℕ → FreeList → List ℕ → Type 0
ColumnsListed b z s t k free m = ListOf (list_size z) (λ i. columns_to b z s t (counted i) k) (λ i. columns_to b z s t (guided i) k) free m

module _ {b : List ℕ} {z : Plan} (pl : Planned b z) where
  -- a node for each pixel of a window
  nodes-is : nodes_of z ≡ node_count (frame_of b).set
  nodes-is = let e = (facts pl).radius in ap (λ (r : ℕ). (2 * r + 1) * (2 * r + 1)) e

  pub store-size : store_size b ≡ 1 + 4 * nodes_of z
  unfolding room_of
  store-size = ap (λ (n : ℕ). 1 + 4 * n) (sym nodes-is)

  -- what the definition asks of the store
  pub listed-stored : {s t : ℕ} (m : List ℕ) (free : FreeList) (m' : List ℕ) → length m' ≡ length m → Beyond (nodes_of z) m m' →
      Listed b z s t free m' → Stored b z s t m free m'
  unfolding list_size ChainStore
  listed-stored {s} {t} m free m' e k c = record {
    store =
        let f = facts pl in
        subst (λ (l : ℕ). Reads (node_count (frame_of b).set) m' (get_or m' 0 0) (entries (frame_of b) s t l)) f.levels
        (subst (λ (n : ℕ). Reads n m' (get_or m' 0 0) (entries (frame_of b) s t z.levels)) nodes-is (chain-reads (frame_of b) s t _ _ _ _ m' c));
    listed = c;
    long = e;
    rest = rw store-size (rest-kept (nodes_of z) m m' e k);
  }

  -- the sums of a window are those of its pixels
  counts-is : (s t i : ℕ) → level_counts b s t i ≡ window pl (counted i) s t
  unfolding level_sum
  counts-is s t i = refl

  guides-is : (s t i : ℕ) → level_guides b s t i ≡ window pl (guided i) s t
  unfolding level_sum
  guides-is s t i = refl

  counts-total : {s t : ℕ} → s < z.width → t < z.height → sum_below (level_counts b s t) z.levels ≤ nodes_of z
  unfolding pixel_count
  counts-total {s} {t} hs ht =
      let f = facts pl in
      let e : sum_below (level_counts b s t) z.levels ≡ sum_below (level_counts b s t) (frame_of b).set.levels =
      ap (sum_below (level_counts b s t)) f.levels in
      omega (arith, e, level-total (pixel-of pl hs ht) (λ x y. 1), pixel_count-nodes (frame_of b) s t, nodes-is)

  guides_high : {s t : ℕ} → s < z.width → t < z.height → (i : ℕ) → level_guides b s t i ≤ 245055
  guides_high hs ht i = guides_of-high (pixel-of pl hs ht) i

  -- a plan's pixels are pixels of its list
  line-below : {p : List Pixel} → PixelsBelow z.levels z.guides p → PixelsBelow (list_size z).levels 256 p
  line-below v = rw (levels-is pl) (record { few = v.few; level = v.level; guide = (below-most pl v).guide })

  small : (list_size z).cap < 4294967296
  small = omega (arith, cap-few pl)

  -- ---- column by column
  module _ (s t : ℕ) (hs : s < z.width) (ht : t < z.height) where
    columns-more : (h : ℕ → ℕ → ℕ) (k : ℕ) →
        columns_to b z s t h k + line_fold ◌+◌ 0 b [] (column_line z (s - z.radius + k) t) h ≡ columns_to b z s t h (k + 1)
    columns-more h k = sym (fold_more ◌+◌ 0 _ _ k)

    columns-none : (h : ℕ → ℕ → ℕ) → 0 ≡ columns_to b z s t h 0
    columns-none h = sym (fold-none ◌+◌ 0 _ _)

    columns-all : (h : ℕ → ℕ → ℕ) → columns_to b z s t h (span z.radius s z.width) ≡ window pl h s t
    columns-all h = sym (columns-law ◌+◌ 0 pl h s t)

    columns-part : (h : ℕ → ℕ → ℕ) (k : ℕ) → k ≤ span z.radius s z.width → columns_to b z s t h k ≤ window pl h s t
    columns-part h k l =
        let n = span z.radius s z.width in
        let e : k + (n - k) ≡ n = omega arith in
        let q : columns_to b z s t h (k + (n - k)) ≡ columns_to b z s t h n = ap (columns_to b z s t h) e in
        omega (arith, q, columns-all h, fold-parts ◌+◌ 0 nat_sums (λ x. line_fold ◌+◌ 0 b [] (column_line z x t) h) (s - z.radius) k (n - k))

    pub columns-empty : {m₀ : List ℕ} {m : List ℕ} (free : FreeList) → ChainCleared (nodes_of z) m₀ free.head free.count m →
        ColumnsListed b z s t 0 free m
    unfolding list_size
    columns-empty free c =
        list_ext (list_size z) _ _ _ _ free _ (c.chain (list_size z).levels) (λ i. columns-none (counted i)) (λ i. columns-none (guided i))

    pub columns-listed : {free : FreeList} {m : List ℕ} → ColumnsListed b z s t (span z.radius s z.width) free m → Listed b z s t free m
    columns-listed {free} {m} c =
        list_ext (list_size z) _ _ _ _ free m c (λ i. columns-all (counted i) ∙ sym (counts-is s t i))
        (λ i. columns-all (guided i) ∙ sym (guides-is s t i))

    -- the next column, read into the list p
    module _ {k : ℕ} (l : k < span z.radius s z.width) {d : Line} (ed : d ≡ column_line z (s - z.radius + k) t) {p : List Pixel}
        (r : LinePixels b [] z d p)
        {free : FreeList} {m : List ℕ} (c : ColumnsListed b z s t k free m) where
      column-more : (h : ℕ → ℕ → ℕ) → columns_to b z s t h k + pixel_fold ◌+◌ 0 p h ≡ columns_to b z s t h (k + 1)
      column-more h = ap (λ (n : ℕ). columns_to b z s t h k + n) (r.sum h ∙ ap (λ (y : Line). line_fold ◌+◌ 0 b [] y h) ed) ∙ columns-more h k

      -- these columns' pixels are some of the window's
      columns-few : sum_below (λ i. columns_to b z s t (counted i) k) z.levels + count_of p ≤ nodes_of z
      columns-few = omega (
        arith,
        line-total r.below,
        fold-both ◌+◌ 0 nat_sums (λ i. columns_to b z s t (counted i) k) (line_count p) 0 z.levels,
        sum-ext (λ i. columns_to b z s t (counted i) (k + 1)) (λ i. columns_to b z s t (counted i) k + line_count p i) z.levels
            (λ i h. column-more (counted i)),
        sum-le (λ i. columns_to b z s t (counted i) (k + 1)) (level_counts b s t) 0 z.levels
            (λ i x y. omega (arith, columns-part (counted i) (k + 1) (omega arith), counts-is s t i)),
        counts-total hs ht,
      )

      pub columns-insertable : MergeableLine true p free m
      columns-insertable = record {
        size = list_size z;
        small = small;
        below = line-below r.below;
        cnt = λ i. columns_to b z s t (counted i) k;
        sm = λ i. columns_to b z s t (guided i) k;
        chain = c;
        ready = record {
          space =
              let q : sum_below (λ i. columns_to b z s t (counted i) k) (list_size z).levels ≡ sum_below (λ i. columns_to b z s t (counted i) k)
              z.levels = ap (sum_below (λ i. columns_to b z s t (counted i) k)) (levels-is pl) in
              omega (arith, q, columns-few, cap-is pl);
          fits = λ i. omega (arith, columns-part (guided i) k (omega arith), guides-is s t i, guides_high hs ht i);
        };
      }

      pub columns-beyond : {free' : FreeList} {m' : List ℕ} → MergedLine true p free m free' m' → Beyond (nodes_of z) m m'
      unfolding columns-insertable list_size
      columns-beyond i = i.beyond columns-insertable

      pub columns-inserted : {free' : FreeList} {m' : List ℕ} → MergedLine true p free m free' m' → ColumnsListed b z s t (k + 1) free' m'
      unfolding columns-insertable
      columns-inserted {free'} {m'} i =
          list_ext (list_size z) _ _ _ _ free' m' (i.chain columns-insertable) (λ j. column-more (counted j)) (λ j. column-more (guided j))

  -- ---- to a neighbour: e and l are the lists of the entering and the leaving line
  module _ {s t s' t' : ℕ} (adj : Adjacent z s t s' t') {d : Step} (ed : d ≡ step_of z s t s' t') {e l : List Pixel}
      (re : LinePixels b [] z d.entering e)
      (rl : LinePixels b [] z d.leaving l)
      {free : FreeList} {m : List ℕ} (c : Listed b z s t free m) where
    moved : (h : ℕ → ℕ → ℕ) → window pl h s' t' + pixel_fold ◌+◌ 0 l h ≡ window pl h s t + pixel_fold ◌+◌ 0 e h
    moved h = stepped (λ (g : ℕ → ℕ → ℕ). g) pl adj ed re rl h

    part : (h : ℕ → ℕ → ℕ) → pixel_fold ◌+◌ 0 l h ≤ window pl h s t
    part h = rw (rl.sum h, ed) (leaving-part pl h adj)

    -- what stays
    stay_counts : ℕ → ℕ
    stay_counts i = level_counts b s t i - line_count l i

    stay_guides : ℕ → ℕ
    stay_guides i = level_guides b s t i - line_guides l i

    counts-out : (i : ℕ) → level_counts b s t i ≡ with_counts true l stay_counts i
    unfolding stay_counts
    counts-out i = omega (arith, counts-is s t i, part (counted i))

    guides-out : (i : ℕ) → level_guides b s t i ≡ with_guides true l stay_guides i
    unfolding stay_guides
    guides-out i = omega (arith, guides-is s t i, part (guided i))

    counts-in : (i : ℕ) → with_counts true e stay_counts i ≡ level_counts b s' t' i
    counts-in i = omega (arith, counts-out i, counts-is s t i, counts-is s' t' i, moved (counted i))

    guides-in : (i : ℕ) → with_guides true e stay_guides i ≡ level_guides b s' t' i
    guides-in i = omega (arith, guides-out i, guides-is s t i, guides-is s' t' i, moved (guided i))

    -- no pixel of a level, no guide: the line has its part of what the level lacks of 255 a pixel
    stay_none : (i : ℕ) → stay_counts i ≡ 0 → stay_guides i ≡ 0
    stay_none i o =
        omega (
          arith,
          counts-out i,
          guides-out i,
          counts-is s t i,
          guides-is s t i,
          part (lacking i),
          window-mixed pl s t i,
          line-mixed
              (line-below rl.below) i,
        )

    stay-total : sum_below stay_counts z.levels + count_of e ≤ nodes_of z
    stay-total =
        let k = both-in adj in
        omega (
          arith,
          sum-ext (level_counts b s' t') (with_counts true e stay_counts) z.levels (λ i h. counts-in i),
          fold-both ◌+◌ 0 nat_sums stay_counts (line_count e) 0 z.levels,
          line-total re.below,
          counts-total k.2 k.3,
        )

    pub slides : Slides e l free m
    slides = record {
      size = list_size z;
      small = small;
      entering = line-below re.below;
      leaving = line-below rl.below;
      cnt = stay_counts;
      sm = stay_guides;
      chain = list_ext (list_size z) _ _ _ _ free m c counts-out guides-out;
      none_left = stay_none;
      ready = record {
        space =
            let q : sum_below stay_counts (list_size z).levels ≡ sum_below stay_counts z.levels = ap (sum_below stay_counts) (levels-is pl) in
            omega (arith, q, stay-total, cap-is pl);
        fits = λ i. let k = both-in adj in omega (arith, guides-out i, guides_high k.0 k.1 i);
      };
    }

    -- afterwards the list is the neighbour's
    pub slid-stored : {free' : FreeList} {m' : List ℕ} → length m' ≡ length m → Slid e l free m free' m' → Stored b z s' t' m free' m'
    unfolding slides
    slid-stored {free'} {m'} n r =
        listed-stored m free' m' n (subst (λ (k : ℕ). Beyond k m m') (cap-is pl) (r.beyond slides))
        (list_ext (list_size z) _ _ _ _ free' m' (r.chain slides) counts-in guides-in)
