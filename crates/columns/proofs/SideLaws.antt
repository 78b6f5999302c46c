-- The window's blocks as it goes sideways.
-- Assumes nothing.
use mathlib.Core.Path.{◌≡◌, refl, sym, ap, ap₂, ◌∙◌}
use mathlib.Core.List.{List, ◌++◌}
use Prim.Native.Nat.{ℕ, ◌+◌, ◌-◌, ◌*◌, ◌/◌, ◌%◌, ◌≤◌, ◌<◌}
use native.Mathlib.Nat.{le_trans, le_of_eq}
use native.Mathlib.Omega.{arith}
use native.Mathlib.Decide.{ℕ_discrete}
use lib.Arith.{digits_div, digits_mod}
use lib.Dec.{eqb}
use lib.ListN.{length, get_or, set, drop, length-set}
use lib.Seq.{get_or-set_same, get_or-set_other}
use borrow.Author.Tests.{eq-eqb, ne_eqb}
use Rattle.std.specs.Prelude.{if◌then◌else◌, Option, Some, None}
use Rattle.std.specs.Option.{ForSome}
use Rattle.spec.specs.Frame.{Frame, guide}
use Rattle.spec.specs.Columns.{column_sum, column_store}
use Rattle.spec.specs.Window.{level_sum}
use Rattle.spec.proofs.Moves.{level_sum-columns}
use Rattle.spec.proofs.Limits.{FrameLimits}
use Rattle.columns.specs.declared.store.Exchange.{Exchange}
use Rattle.columns.specs.Blocks.{block, content_d, blocks_size, Swap, BlockReady, when_some, cell_of, guides_of, pair_d, exchange_of, Neighbours}
use Rattle.columns.proofs.ContentLaws.{
  Which,
  counts,
  guides,
  window,
  window_guides,
  beyond,
  which,
  content-count,
  content-guide,
  content-window,
  content-window-guide,
  holds-cell,
}
use Rattle.columns.proofs.StoreLaws.{exchange-law, entering-low, leaving-low, content-high, moved-cells}

-- ---- one pass: the levels below i are done
pub record BlockSlid (l a : ℕ) (F G : ℕ → ℕ) (i : ℕ) (xs ys : List ℕ) : Type 0 where
  pub len : length ys ≡ length xs
  pub done : (j : ℕ) → j < i → get_or ys (a * l + j) 0 + G j ≡ get_or xs (a * l + j) 0 + F j
  pub other : (m j : ℕ) → j < l → ((m ≡ a) → j < i → ⊥) → get_or ys (m * l + j) 0 ≡ get_or xs (m * l + j) 0

pub slid-here : {l a : ℕ} {F G : ℕ → ℕ} {i : ℕ} {xs ys : List ℕ} → BlockSlid l a F G i xs ys → i < l → get_or ys (a * l + i) 0 ≡ get_or xs (a * l + i) 0
slid-here {l} {a} {F} {G} {i} k h = k.other a i h (λ e d. omega arith)

pub slid-pick : {l a : ℕ} {F G : ℕ → ℕ} {i : ℕ} {xs ys : List ℕ} → BlockSlid l a F G i xs ys → i < l → (m : Option ℕ) → ForSome m (λ b. b < a)
    → cell_of l m ys i ≡ cell_of l m xs i
slid-pick k h (Some m) low = k.other m _ h (λ e d. let q = low m refl in omega arith)
slid-pick k h None low = refl

pub slid-next : {l a : ℕ} {F G : ℕ → ℕ} {i : ℕ} {xs ys : List ℕ} {u v : ℕ} → BlockSlid l a F G i xs ys → i < l → a * l + i < length ys →
    BlockReady l a F G xs → u ≡ F i → v ≡ G i
    → BlockSlid l a F G (i + 1) xs (set ys (a * l + i) (get_or ys (a * l + i) 0 + u - v))
slid-next {l} {a} {F} {G} {i} {xs} {ys} {u} {v} k h long r eu ev =
    record { len = length-set ys _ _ ∙ k.len; done = λ j l. go j l (ℕ_discrete j i); other = λ m j l n. far m j l n }
  where
    apart : (m j : ℕ) → j < l → m * l + j ≡ a * l + i → (m ≡ a) × (j ≡ i)
    apart m j hj e =
        (sym (digits_div m hj) ∙ ap (λ (n : ℕ). n / l) e ∙ digits_div a h, sym (digits_mod m hj) ∙ ap (λ (n : ℕ). n % l) e ∙ digits_mod a h)

    go : (j : ℕ) → j < i + 1 → Dec (j ≡ i) →
        get_or (set ys (a * l + i) (get_or ys (a * l + i) 0 + u - v)) (a * l + j) 0 + G j ≡ get_or xs (a * l + j) 0 + F j
    go j d (yes e) =
        let q = get_or-set_same ys (a * l + i) (get_or ys (a * l + i) 0 + u - v) 0 long in
        let s = slid-here k h in
        let t = r.enough i h in
        let w : get_or (set ys (a * l + i) (get_or ys (a * l + i) 0 + u - v)) (a * l + i) 0 + G i ≡ get_or xs (a * l + i) 0 + F i = omega arith in
        rw e w
    go j d (no e) =
        let q = get_or-set_other ys (a * l + i) (a * l + j) (get_or ys (a * l + i) 0 + u - v) 0 (λ x. e (omega arith)) in
        let s = k.done j (omega arith) in
        omega arith

    far : (m j : ℕ) → j < l → ((m ≡ a) → j < i + 1 → ⊥) →
        get_or (set ys (a * l + i) (get_or ys (a * l + i) 0 + u - v)) (m * l + j) 0 ≡ get_or xs (m * l + j) 0
    far m j hj n =
        get_or-set_other ys (a * l + i) (m * l + j) _ 0 (λ x. let q = apart m j hj x in n q.0 (omega (arith, q.1)))
        ∙ k.other m j hj (λ e d. n e (omega arith))

-- ---- two blocks, one after the other
module _ (w l : ℕ) (xs ys : List ℕ) (F G : ℕ → ℕ) (q : Swap l (block (2 * w) F) (block (2 * w) G) xs ys) where
  -- the other blocks are as they were
  pub kept : (m i : ℕ) → i < l → (m ≡ 2 * w → ⊥) → get_or ys (m * l + i) 0 ≡ get_or xs (m * l + i) 0
  kept m i h n = let c = q.cells m i h in let a : block (2 * w) F m i ≡ 0 = rw (ne_eqb m (2 * w) n) refl in let b : block (2 * w) G m i ≡ 0 =
      rw (ne_eqb m (2 * w) n) refl in omega arith

  pub kept-cell : (x : Option ℕ) (i : ℕ) → i < l → ForSome x (λ a. a < w) → cell_of l (guides_of w x) ys i ≡ cell_of l (guides_of w x) xs i
  kept-cell (Some x) i h low = kept (w + x) i h (λ e. let a = low x refl in omega arith)
  kept-cell None i h low = refl

  pub ready-second : (more less : Option ℕ) → ForSome more (λ a. a < w) → ForSome less (λ a. a < w)
      → BlockReady l (2 * w + 1) (cell_of l (guides_of w more) xs) (cell_of l (guides_of w less) xs) xs
      → BlockReady l (2 * w + 1) (cell_of l (guides_of w more) ys) (cell_of l (guides_of w less) ys) ys
  ready-second more less hm hl r =
      record {
        room = λ i h. let a = kept (2 * w + 1) i h (λ e. omega arith) in let b = kept-cell more i h hm in let c = r.room i h in omega arith;
        enough = λ i h. let a = kept (2 * w + 1) i h (λ e. omega arith) in let b = kept-cell more i h hm in let c =
            kept-cell less i h hl in let d = r.enough i h in omega arith;
      }

pub across-done : (w l : ℕ) (more less : Option ℕ) {xs ys zs : List ℕ} → ForSome more (λ a. a < w) → ForSome less (λ a. a < w)
    → Swap l (block (2 * w) (cell_of l more xs)) (block (2 * w) (cell_of l less xs)) xs ys
    → Swap l (block (2 * w + 1) (cell_of l (guides_of w more) ys)) (block (2 * w + 1) (cell_of l (guides_of w less) ys)) ys zs
    → Swap l (pair_d w l more xs) (pair_d w l less xs) xs zs
unfolding pair_d
across-done w l more less {xs} {ys} {zs} hm hl q r =
    record {
      len = r.len ∙ q.len;
      cells = λ m i h.
          let a = q.cells m i h in
          let b = r.cells m i h in
          let c : block (2 * w + 1) (cell_of l (guides_of w more) ys) m i ≡ block (2 * w + 1) (cell_of l (guides_of w more) xs) m i =
          ap (λ (n : ℕ). if eqb m (2 * w + 1) then n else 0)
          (kept-cell w l xs ys (cell_of l more xs) (cell_of l less xs) q more i h hm) in
          let d : block (2 * w + 1) (cell_of l (guides_of w less) ys) m i ≡ block (2 * w + 1) (cell_of l (guides_of w less) xs) m i =
          ap (λ (n : ℕ). if eqb m (2 * w + 1) then n else 0)
          (kept-cell w l xs ys (cell_of l more xs) (cell_of l less xs) q less i h hl) in
          omega arith;
    }

pub blocks-in : (w l n : ℕ) → 2 * (w * l) + 2 * l ≤ n → (2 * w * l + l ≤ n) × ((2 * w + 1) * l + l ≤ n)
blocks-in w l n h =
    let a : 2 * w * l ≡ 2 * (w * l) = native.Mathlib.Nat.mul_assoc 2 w l in
    let b : (2 * w + 1) * l ≡ 2 * w * l + 1 * l = native.Mathlib.Nat.add-mul (2 * w) 1 l in
    (omega arith, omega arith)

-- the guide sums' block is one of the columns'
pub guides-low : (w : ℕ) (x : Option ℕ) → ForSome x (λ a. a < w) → ForSome (guides_of w x) (λ a. a < 2 * w)
guides-low w (Some x) low y e = let z : w + x ≡ y = cc in let h = low x refl in omega arith
guides-low w None low y e = absurd (let z : Some y ≡ None = sym e in cc)

pub some_less : (m n : ℕ) (x : Option ℕ) → m ≤ n → ForSome x (λ a. a < m) → ForSome x (λ a. a < n)
some_less m n x h low y e = let l = low y e in omega arith

-- ---- the columns' numbers in the window's blocks
module _ (w l : ℕ) (x : Option ℕ) (xs : List ℕ) (i : ℕ) where
  pub pair-none : (m : ℕ) → (m ≡ 2 * w → ⊥) → (m ≡ 2 * w + 1 → ⊥) → pair_d w l x xs m i ≡ 0
  unfolding pair_d
  pair-none m a b = rw (ne_eqb m (2 * w) a, ne_eqb m (2 * w + 1) b) refl

  pub pair-first : (m : ℕ) → m ≡ 2 * w → pair_d w l x xs m i ≡ cell_of l x xs i
  unfolding pair_d
  pair-first m e = rw (eq-eqb m (2 * w) e, ne_eqb m (2 * w + 1) (λ d. omega arith)) (native.Mathlib.Nat.add-zero _)

  pub pair-second : (m : ℕ) → m ≡ 2 * w + 1 → pair_d w l x xs m i ≡ cell_of l (guides_of w x) xs i
  unfolding pair_d
  pair-second m e = rw (eq-eqb m (2 * w + 1) e, ne_eqb m (2 * w) (λ d. omega arith)) (native.Mathlib.Nat.zero-add _)

module _ {p : Frame} (g : FrameLimits p) (c t : ℕ) (xs : List ℕ) (e : xs ≡ column_store p c t ++ drop (blocks_size p) xs) where
  abbrev w : ℕ
  w = p.set.width

  abbrev l : ℕ
  l = p.set.levels

  pub cell-count : (x : Option ℕ) (i : ℕ) → ForSome x (λ a. a < w) → i < l → cell_of l x xs i ≡ when_some x (λ a. column_sum p t (λ u v. 1) a i)
  cell-count (Some x) i low h = let lx = low x refl in holds-cell p c t xs e x i (omega arith) h ∙ content-count p c t i x lx
  cell-count None i low h = refl

  pub cell-guide : (x : Option ℕ) (i : ℕ) → ForSome x (λ a. a < w) → i < l →
      cell_of l (guides_of w x) xs i ≡ when_some x (λ a. column_sum p t (guide p) a i)
  cell-guide (Some x) i low h = let lx = low x refl in holds-cell p c t xs e (w + x) i (omega arith) h ∙ content-guide p c t i x lx
  cell-guide None i low h = refl

  pub cell-high : (m : Option ℕ) (i : ℕ) → ForSome m (λ a. a < 2 * w + 2) → i < l → cell_of l m xs i ≤ 245055
  cell-high (Some m) i low h = le_trans (le_of_eq (holds-cell p c t xs e m i (low m refl) h)) (content-high g c t m i)
  cell-high None i low h = omega arith

  pub pair-high : (x : Option ℕ) (m i : ℕ) → ForSome x (λ a. a < w) → i < l → pair_d w l x xs m i ≤ 4000000
  pair-high x m i low h = go (ℕ_discrete m (2 * w)) (ℕ_discrete m (2 * w + 1))
    where
      go : Dec (m ≡ 2 * w) → Dec (m ≡ 2 * w + 1) → pair_d w l x xs m i ≤ 4000000
      go (yes d) b = let a = pair-first w l x xs i m d in let q = cell-high x i (some_less w (2 * w + 2) x (omega arith) low) h in omega arith
      go (no a) (yes d) =
          let b = pair-second w l x xs i m d in
          let q = cell-high (guides_of w x) i (some_less (2 * w) (2 * w + 2) (guides_of w x) (omega arith) (guides-low w x low)) h in
          omega arith
      go (no a) (no b) = let d = pair-none w l x xs i m a b in omega arith

  -- the window one column on, and what it lost, is the old window and what it gained
  module _ {s s' : ℕ} (k : Neighbours s s' w) where
    abbrev d : Exchange
    d = exchange_of s s' p.set.radius w

    level-law : (f : ℕ → ℕ → ℕ) (i : ℕ) →
        level_sum p s' t f i + when_some d.leaving (λ x. column_sum p t f x i) ≡ level_sum p s t f i + when_some d.entering
        (λ x. column_sum p t f x i)
    level-law f i =
        ap (λ (n : ℕ). n + when_some d.leaving (λ x. column_sum p t f x i)) (level_sum-columns p s' t f i)
        ∙ exchange-law p.set.radius k (λ x. column_sum p t f x i)
        ∙ ap (λ (n : ℕ). n + when_some d.entering (λ x. column_sum p t f x i)) (sym (level_sum-columns p s t f i))

    pub across-law : (m i : ℕ) → m < 2 * w + 2 → i < l → content_d p s' t m i + pair_d w l d.leaving xs m i ≡ content_d p s t m i + pair_d w l d.entering xs m i
    across-law m i hm hi = go (which w m)
      where
        go : Which w m → content_d p s' t m i + pair_d w l d.leaving xs m i ≡ content_d p s t m i + pair_d w l d.entering xs m i
        go (counts h) =
            ap₂ ◌+◌ (content-count p s' t i m h ∙ sym (content-count p s t i m h))
            (pair-none w l d.leaving xs i m (λ o. omega arith) (λ o. omega arith)
            ∙ sym (pair-none w l d.entering xs i m (λ o. omega arith) (λ o. omega arith)))
        go (guides x h e') =
            ap₂ ◌+◌
            (ap (λ (n : ℕ). content_d p s' t n i) e' ∙ content-guide p s' t i x h ∙ sym (content-guide p s t i x h) ∙ ap
            (λ (n : ℕ). content_d p s t n i) (sym e'))
            (pair-none w l d.leaving xs i m (λ o. omega arith) (λ o. omega arith)
            ∙ sym (pair-none w l d.entering xs i m (λ o. omega arith) (λ o. omega arith)))
        go (window e') =
            ap₂ ◌+◌ (ap (λ (n : ℕ). content_d p s' t n i) e' ∙ content-window p s' t i)
            (pair-first w l d.leaving xs i m e' ∙ cell-count d.leaving i (leaving-low p.set.radius k) hi)
            ∙ level-law (λ u v. 1) i
            ∙ sym (ap₂ ◌+◌ (ap (λ (n : ℕ). content_d p s t n i) e' ∙ content-window p s t i)
            (pair-first w l d.entering xs i m e' ∙ cell-count d.entering i (entering-low p.set.radius k) hi))
        go (window_guides e') =
            ap₂ ◌+◌ (ap (λ (n : ℕ). content_d p s' t n i) e' ∙ content-window-guide p s' t i)
            (pair-second w l d.leaving xs i m e' ∙ cell-guide d.leaving i (leaving-low p.set.radius k) hi)
            ∙ level-law (guide p) i
            ∙ sym (ap₂ ◌+◌ (ap (λ (n : ℕ). content_d p s t n i) e' ∙ content-window-guide p s t i)
            (pair-second w l d.entering xs i m e' ∙ cell-guide d.entering i (entering-low p.set.radius k) hi))
        go (beyond h) = absurd (omega arith)

-- ---- what the two passes ask, and what they give
module _ {p : Frame} (g : FrameLimits p) {s s' : ℕ} (t : ℕ) (k : Neighbours s s' p.set.width) (xs : List ℕ)
    (e : xs ≡ column_store p s t ++ drop (blocks_size p) xs) where
  abbrev wide : ℕ
  wide = p.set.width

  abbrev deep : ℕ
  deep = p.set.levels

  abbrev more : Option ℕ
  more = (exchange_of s s' p.set.radius wide).entering

  abbrev less : Option ℕ
  less = (exchange_of s s' p.set.radius wide).leaving

  hm : ForSome more (λ x. x < wide)
  hm = entering-low p.set.radius k

  law : (m i : ℕ) → m < 2 * wide + 2 → i < deep → content_d p s' t m i + pair_d wide deep less xs m i ≡ content_d p s t m i + pair_d wide deep more xs m i
  law = across-law g s t xs e k

  pub ready-counts : BlockReady deep (2 * wide) (cell_of deep more xs) (cell_of deep less xs) xs
  ready-counts =
      record {
        room = λ i h.
            let a = holds-cell p s t xs e (2 * wide) i (omega arith) h in
            let b = content-high g s t (2 * wide) i in
            let q = cell-high g s t xs e more i (some_less wide (2 * wide + 2) more (omega arith) hm) h in
            omega arith;
        enough = λ i h.
            let a = holds-cell p s t xs e (2 * wide) i (omega arith) h in
            let b = law (2 * wide) i (omega arith) h in
            let u = pair-first wide deep more xs i (2 * wide) refl in
            let v = pair-first wide deep less xs i (2 * wide) refl in
            omega arith;
      }

  pub ready-guides : BlockReady deep (2 * wide + 1) (cell_of deep (guides_of wide more) xs) (cell_of deep (guides_of wide less) xs) xs
  ready-guides =
      record {
        room = λ i h.
            let a = holds-cell p s t xs e (2 * wide + 1) i (omega arith) h in
            let b = content-high g s t (2 * wide + 1) i in
            let q =
            cell-high g s t xs e (guides_of wide more) i
            (some_less (2 * wide) (2 * wide + 2) (guides_of wide more) (omega arith) (guides-low wide more hm)) h in
            omega arith;
        enough = λ i h.
            let a = holds-cell p s t xs e (2 * wide + 1) i (omega arith) h in
            let b = law (2 * wide + 1) i (omega arith) h in
            let u = pair-second wide deep more xs i (2 * wide + 1) refl in
            let v = pair-second wide deep less xs i (2 * wide + 1) refl in
            omega arith;
      }

  pub across-holds : (zs : List ℕ) → Swap deep (pair_d wide deep more xs) (pair_d wide deep less xs) xs zs
      → zs ≡ column_store p s' t ++ drop (blocks_size p) xs
  across-holds zs q =
      moved-cells g s t s' t (pair_d wide deep more xs) (pair_d wide deep less xs) law
      (λ m i h. pair-none wide deep more xs i m (λ o. omega arith) (λ o. omega arith))
      (λ m i h. pair-none wide deep less xs i m (λ o. omega arith) (λ o. omega arith))
      (λ m i h. pair-high g s t xs e more m i hm h) xs e zs q.len q.cells
