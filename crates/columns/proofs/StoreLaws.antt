-- The store's start and its moves, from what rows and columns put in and take out.
-- Assumes nothing.
use mathlib.Core.Path.{◌≡◌, refl, sym, ap, ◌∙◌, subst}
use mathlib.Core.Bool.{Bool, true, false, true≢false}
use mathlib.Core.List.{List, ◌++◌}
use mathlib.Core.Logic.{◌⊎◌, inl, inr}
use Prim.Native.Nat.{ℕ, ◌+◌, ◌-◌, ◌*◌, ◌/◌, ◌%◌, ◌≤◌, ◌<◌, min}
use native.Mathlib.Nat.{le_trans, le_of_eq, div-add-mod', div-lt_iff_lt-mul, mod-lt, mul-le-mul_right}
use native.Mathlib.Omega.{arith}
use native.Mathlib.Decide.{dec_lt}
use lib.Dec.{leb, ltb, eqb}
use lib.ListN.{length, get_or, drop}
use borrow.Author.Tests.{ltb-true, lt-ltb, le-ltb, le-leb, lt-leb}
use Rattle.spec.specs.declared.Plan.{Plan}
use Rattle.std.specs.Prelude.{if◌then◌else◌, Option, Some, None}
use Rattle.std.specs.Bool.{then_some}
use Rattle.std.specs.Option.{ForSome, SomeIff}
use Rattle.spec.specs.Base.{sum, when}
use Rattle.spec.specs.Frame.{Frame, frame_of, level, guide}
use Rattle.spec.specs.Checks.{Planned}
use Rattle.spec.specs.Window.{span, in_row}
use Rattle.spec.specs.Columns.{column_store}
use Rattle.spec.proofs.Ranges.{nat_sums, window-right, lost, gained}
use Rattle.spec.proofs.Sums.{live-one, sum-le, sum-const}
use Rattle.spec.proofs.Limits.{FrameLimits}
use Rattle.spec.proofs.Bounds.{if-high}
use Rattle.spec.proofs.Plans.{facts}
use Rattle.window.proofs.LineLaws.{span-high}
use Rattle.columns.specs.declared.store.Exchange.{Exchange}
use Rattle.columns.specs.Blocks.{Put, Able, Neighbours}
use Rattle.columns.specs.Blocks.{at_level, row_d, content_d, blocks_size, ahead, back, exchange_of, when_some, enter_d, leave_d}
use Rattle.columns.proofs.BlockLaws.{Cleared, store-size, in-store}
use Rattle.columns.proofs.ContentLaws.{
  Which,
  counts,
  guides,
  window,
  window_guides,
  beyond,
  which,
  row_count,
  row-guide,
  row-window,
  row-window-guide,
  row-beyond,
  content-beyond,
  holds-cell,
  holds-long,
  make-holds,
}

-- ---- a move by one, for everything that is summed over a span
if-some : (b : Bool) (x : ℕ) (F : ℕ → ℕ) → when_some (then_some b x) F ≡ when b (F x)
if-some true x F = refl
if-some false x F = refl

some-low : (b : Bool) (x size : ℕ) → (b ≡ true → x < size) → ForSome (then_some b x) (λ y. y < size)
some-low true x size h y e = let z : x ≡ y = cc in let low = h refl in omega arith
some-low false x size h y e = absurd (let z : Some y ≡ None = sym e in cc)

some-iff : (x : Option ℕ) (a b : ℕ) → SomeIff x (a ≤ b) (b - a) → x ≡ then_some (leb a b) (b - a)
some-iff (Some x) a b h = rw (le-leb a b h.0, h.1) refl
some-iff None a b h = rw (lt-leb a b (omega arith)) refl

-- how the code makes an exchange, from the lines at both ends of the window that comes first
module _ {c c' : ℕ} (r size : ℕ) {first : ℕ} {before after : Option ℕ} (f : first ≡ min c c') (b : SomeIff before (r ≤ first) (first - r))
    (a : after ≡ then_some (ltb (first + r + 1) size) (first + r + 1)) where
  pub ahead-is : c < c' → ◌≡◌ {A = Exchange} (record { entering = after; leaving = before }) (exchange_of c c' r size)
  unfolding exchange_of ahead
  ahead-is h = let e : first ≡ c = omega arith in rw (lt-ltb c c' h, a, some-iff before r first b, e) refl

  pub back_is : c' ≤ c → ◌≡◌ {A = Exchange} (record { entering = before; leaving = after }) (exchange_of c c' r size)
  unfolding exchange_of ahead back
  back_is h = let e : first ≡ c' = omega arith in rw (le-ltb c c' h, a, some-iff before r first b, e) refl

module _ {c c' size : ℕ} (r : ℕ) (k : Neighbours c c' size) where
  is-ahead : c' ≡ c + 1 → exchange_of c c' r size ≡ ahead c r size
  unfolding exchange_of
  is-ahead e = rw (lt-ltb c c' (omega arith)) refl

  is-back : c ≡ c' + 1 → exchange_of c c' r size ≡ back (ahead c' r size)
  unfolding exchange_of
  is-back e = rw (le-ltb c c' (omega arith)) refl

  pub exchange-law : (F : ℕ → ℕ)
      → sum F (c' - r) (span r c' size) + when_some (exchange_of c c' r size).leaving F
      ≡ sum F (c - r) (span r c size) + when_some (exchange_of c c' r size).entering F
  unfolding ahead back lost gained
  exchange-law F = go k.by_one
    where
      go : (c' ≡ c + 1) ⊎ (c ≡ c' + 1)
          → sum F (c' - r) (span r c' size) + when_some (exchange_of c c' r size).leaving F
          ≡ sum F (c - r) (span r c size) + when_some (exchange_of c c' r size).entering F
      go (inl e) =
          rw (is-ahead e, e, if-some (leb r c) (c - r) F, if-some (ltb (c + r + 1) size) (c + r + 1) F)
          (window-right ◌+◌ 0 nat_sums F r c size (omega (arith, k.in_new)))
      go (inr e) =
          rw (is-back e, e, if-some (leb r c') (c' - r) F, if-some (ltb (c' + r + 1) size) (c' + r + 1) F)
          (sym (window-right ◌+◌ 0 nat_sums F r c' size (omega (arith, k.in_old))))

  pub entering-low : ForSome (exchange_of c c' r size).entering (λ x. x < size)
  unfolding ahead back
  entering-low = go k.by_one
    where
      go : (c' ≡ c + 1) ⊎ (c ≡ c' + 1) → ForSome (exchange_of c c' r size).entering (λ x. x < size)
      go (inl e) = rw (is-ahead e) (some-low (ltb (c + r + 1) size) (c + r + 1) size (λ h. ltb-true _ _ h))
      go (inr e) = rw (is-back e) (some-low (leb r c') (c' - r) size (λ h. omega (arith, k.in_new)))

  pub leaving-low : ForSome (exchange_of c c' r size).leaving (λ x. x < size)
  unfolding ahead back
  leaving-low = go k.by_one
    where
      go : (c' ≡ c + 1) ⊎ (c ≡ c' + 1) → ForSome (exchange_of c c' r size).leaving (λ x. x < size)
      go (inl e) = rw (is-ahead e) (some-low (leb r c) (c - r) size (λ h. omega (arith, k.in_old)))
      go (inr e) = rw (is-back e) (some-low (ltb (c' + r + 1) size) (c' + r + 1) size (λ h. ltb-true _ _ h))

-- ---- bounds
in_span : (r c n k : ℕ) → k < c - r + span r c n → c - r ≤ k → k < n
unfolding span
in_span r c n k h l = omega arith

at_high : (p : Frame) (f : ℕ → ℕ → ℕ) (x y i n : ℕ) → f x y ≤ n → at_level p f x y i ≤ n
at_high p f x y i n h =
    live-one 0 p (λ (v : ℕ). v ≤ n) (λ u v. if eqb (level p u v) i then f u v else 0) x y (omega arith)
    (λ _. if-high (eqb (level p x y) i) (f x y) n h)

module _ {p : Frame} (g : FrameLimits p) where
  guide-high : (x y : ℕ) → x < p.set.width → y < p.set.height → guide p x y ≤ 255
  guide-high x y hx hy = omega (arith, g.guide-low x y hx hy, g.sound.guides_high)

  in-row-high : (s y i : ℕ) (f : ℕ → ℕ → ℕ) → ((x : ℕ) → x < p.set.width → f x y ≤ 255)
      → in_row ◌+◌ 0 p s (λ u v. if eqb (level p u v) i then f u v else 0) y ≤ 7905
  unfolding in_row
  in-row-high s y i f h =
      le_trans
      (sum-le (λ x. at_level p f x y i) (λ x. 255) (s - p.set.radius) (span p.set.radius s p.set.width)
      (λ x a b. at_high p f x y i 255 (h x (in_span p.set.radius s p.set.width x b a))))
      (le_trans (le_of_eq (sum-const 255 (s - p.set.radius) (span p.set.radius s p.set.width)))
      (omega (arith, span-high p.set.radius s p.set.width g.sound.radius_high)))

  pub row-high : (s y m i : ℕ) → y < p.set.height → row_d p s y m i ≤ 7905
  row-high s y m i hy = go (which p.set.width m)
    where
      go : Which p.set.width m → row_d p s y m i ≤ 7905
      go (counts h) = le_trans (le_of_eq (row_count p y i s m h)) (at_high p (λ u v. 1) m y i 7905 (omega arith))
      go (guides x h e) =
          le_trans (le_of_eq (ap (λ (n : ℕ). row_d p s y n i) e ∙ row-guide p y i s x h))
          (at_high p (guide p) x y i 7905 (le_trans (guide-high x y h hy) (omega arith)))
      go (window e) =
          le_trans (le_of_eq (ap (λ (n : ℕ). row_d p s y n i) e ∙ row-window p y i s))
          (in-row-high s y i (λ u v. 1) (λ x h. omega arith))
      go (window_guides e) =
          le_trans (le_of_eq (ap (λ (n : ℕ). row_d p s y n i) e ∙ row-window-guide p y i s))
          (in-row-high s y i (guide p) (λ x h. guide-high x y h hy))
      go (beyond h) = le_trans (le_of_eq (row-beyond p y i s m h)) (omega arith)

  pub content-high : (s t m i : ℕ) → content_d p s t m i ≤ 245055
  unfolding content_d
  content-high s t m i =
      le_trans
      (sum-le (λ y. row_d p s y m i) (λ y. 7905) (t - p.set.radius) (span p.set.radius t p.set.height)
      (λ y a b. row-high s y m i (in_span p.set.radius t p.set.height y b a)))
      (le_trans (le_of_eq (sum-const 7905 (t - p.set.radius) (span p.set.radius t p.set.height)))
      (omega (arith, span-high p.set.radius t p.set.height g.sound.radius_high)))

  pub some-high : (y : Option ℕ) (s m i : ℕ) → ForSome y (λ v. v < p.set.height) → when_some y (λ v. row_d p s v m i) ≤ 7905
  some-high (Some y) s m i h = row-high s y m i (h y refl)
  some-high None s m i h = omega arith

some-beyond : (p : Frame) (y : Option ℕ) (s m i : ℕ) → 2 * p.set.width + 2 ≤ m → when_some y (λ v. row_d p s v m i) ≡ 0
some-beyond p (Some y) s m i h = row-beyond p y i s m h
some-beyond p None s m i h = refl

-- ---- a store of one window, something put in, something taken out, is the store of another
module _ {p : Frame} (g : FrameLimits p) (s t s' t' : ℕ) (D E : ℕ → ℕ → ℕ)
    (law : (m i : ℕ) → m < 2 * p.set.width + 2 → i < p.set.levels → content_d p s' t' m i + E m i ≡ content_d p s t m i + D m i)
    (D-none : (m i : ℕ) → 2 * p.set.width + 2 ≤ m → D m i ≡ 0) (E-none : (m i : ℕ) → 2 * p.set.width + 2 ≤ m → E m i ≡ 0)
    (D-high : (m i : ℕ) → i < p.set.levels → D m i ≤ 4000000) (xs : List ℕ) (e : xs ≡ column_store p s t ++ drop (blocks_size p) xs) where
  pub room_for : ((j : ℕ) → get_or xs j 0 < 4294967296) → Able true p.set.levels D xs
  room_for bits = record { room = λ _ m i hi. go m i hi (dec_lt m (2 * p.set.width + 2)); enough = λ d. absurd (true≢false d) }
    where
      go : (m i : ℕ) → i < p.set.levels → Dec (m < 2 * p.set.width + 2) → get_or xs (m * p.set.levels + i) 0 + D m i < 4294967296
      go m i hi (yes h) =
          let a = holds-cell p s t xs e m i h hi in
          let b = content-high g s t m i in
          let c = D-high m i hi in
          omega arith
      go m i hi (no h) =
          let a = D-none m i (omega arith) in
          let b = bits (m * p.set.levels + i) in
          omega arith

  pub enough-for : (ys : List ℕ) → Put true p.set.levels D xs ys → Able false p.set.levels E ys
  enough-for ys q = record { room = λ d. absurd (true≢false (sym d)); enough = λ _ m i hi. go m i hi (dec_lt m (2 * p.set.width + 2)) }
    where
      go : (m i : ℕ) → i < p.set.levels → Dec (m < 2 * p.set.width + 2) → E m i ≤ get_or ys (m * p.set.levels + i) 0
      go m i hi (yes h) =
          let a = holds-cell p s t xs e m i h hi in
          let b = law m i h hi in
          let c = q.cells m i hi in
          omega arith
      go m i hi (no h) = let a = E-none m i (omega arith) in omega arith

  -- the relation that both steps give
  pub moved-cells : (zs : List ℕ) → length zs ≡ length xs
      → ((m i : ℕ) → i < p.set.levels → get_or zs (m * p.set.levels + i) 0 + E m i ≡ get_or xs (m * p.set.levels + i) 0 + D m i)
      → zs ≡ column_store p s' t' ++ drop (blocks_size p) xs
  moved-cells zs len cells =
      make-holds p s' t' zs xs len (holds-long p s t xs e) (le_trans (omega arith) g.sound.levels_low)
      (λ m i h hi. let a = holds-cell p s t xs e m i h hi in let b = law m i h hi in let c = cells m i hi in omega arith)
      (λ j h. go j h)
    where
      go : (j : ℕ) → blocks_size p ≤ j → get_or zs j 0 ≡ get_or xs j 0
      go j h =
          let low : 0 < p.set.levels = le_trans (omega arith) g.sound.levels_low in
          let d : j / p.set.levels * p.set.levels + j % p.set.levels ≡ j = div-add-mod' j p.set.levels in
          let big : 2 * p.set.width + 2 ≤ j / p.set.levels = far (dec_lt (j / p.set.levels) (2 * p.set.width + 2)) in
          let c = cells (j / p.set.levels) (j % p.set.levels) (mod-lt j low) in
          let a = D-none (j / p.set.levels) (j % p.set.levels) big in
          let b = E-none (j / p.set.levels) (j % p.set.levels) big in
          subst (λ (k : ℕ). get_or zs k 0 ≡ get_or xs k 0) d (omega arith)
        where
          far : Dec (j / p.set.levels < 2 * p.set.width + 2) → 2 * p.set.width + 2 ≤ j / p.set.levels
          far (no n) = omega arith
          far (yes n) =
              let low : 0 < p.set.levels = le_trans (omega arith) g.sound.levels_low in
              let q : j < (2 * p.set.width + 2) * p.set.levels = (div-lt_iff_lt-mul low).0 n in
              absurd (omega (arith, store-size p.set.width p.set.levels))

  pub moved : (ys zs : List ℕ) → Put true p.set.levels D xs ys → Put false p.set.levels E ys zs →
      zs ≡ column_store p s' t' ++ drop (blocks_size p) xs
  moved ys zs q r = moved-cells zs (r.len ∙ q.len) (λ m i hi. let a = q.cells m i hi in let b = r.cells m i hi in omega arith)

-- ---- up and down
module _ {p : Frame} (g : FrameLimits p) (s : ℕ) {t t' : ℕ} (k : Neighbours t t' p.set.height) (xs : List ℕ)
    (e : xs ≡ column_store p s t ++ drop (blocks_size p) xs) where
  abbrev d : Exchange
  d = exchange_of t t' p.set.radius p.set.height

  content-law : (m i : ℕ) → content_d p s t' m i + leave_d p s d m i ≡ content_d p s t m i + enter_d p s d m i
  unfolding content_d leave_d enter_d
  content-law m i = exchange-law p.set.radius k (λ y. row_d p s y m i)

  enter-none : (m i : ℕ) → 2 * p.set.width + 2 ≤ m → enter_d p s d m i ≡ 0
  unfolding enter_d
  enter-none m i h = some-beyond p d.entering s m i h

  leave_none : (m i : ℕ) → 2 * p.set.width + 2 ≤ m → leave_d p s d m i ≡ 0
  unfolding leave_d
  leave_none m i h = some-beyond p d.leaving s m i h

  enter-high : (m i : ℕ) → i < p.set.levels → enter_d p s d m i ≤ 4000000
  unfolding enter_d
  enter-high m i h = le_trans (some-high g d.entering s m i (entering-low p.set.radius k)) (omega arith)

  pub enter-able : ((j : ℕ) → get_or xs j 0 < 4294967296) → Able true p.set.levels (enter_d p s d) xs
  enter-able = room_for g s t s t' (enter_d p s d) (leave_d p s d) (λ m i _ _. content-law m i) enter-none leave_none enter-high xs e

  pub leave-able : (ys : List ℕ) → Put true p.set.levels (enter_d p s d) xs ys → Able false p.set.levels (leave_d p s d) ys
  leave-able = enough-for g s t s t' (enter_d p s d) (leave_d p s d) (λ m i _ _. content-law m i) enter-none leave_none enter-high xs e

  pub rows-moved : (ys zs : List ℕ) → Put true p.set.levels (enter_d p s d) xs ys → Put false p.set.levels (leave_d p s d) ys zs →
      zs ≡ column_store p s t' ++ drop (blocks_size p) xs
  rows-moved = moved g s t s t' (enter_d p s d) (leave_d p s d) (λ m i _ _. content-law m i) enter-none leave_none enter-high xs e

-- ---- the start
module _ {b : List ℕ} {z : Plan} (k : Planned b z) (s t : ℕ) {a n : ℕ} (ea : a ≡ t - z.radius) (en : n ≡ span z.radius t z.height)
    (xs ys : List ℕ) (c : Cleared (2 * (z.width * z.levels) + 2 * z.levels) xs ys) where
  size_is : 2 * (z.width * z.levels) + 2 * z.levels ≡ blocks_size (frame_of b)
  size_is = let f = facts k in rw (f.width, f.levels) refl

  same_sum : (m i : ℕ) → sum (λ v. row_d (frame_of b) s v m i) a n ≡ content_d (frame_of b) s t m i
  unfolding content_d
  same_sum m i = let f = facts k in rw (ea, en, f.radius, f.height) refl

  pub start-able : ((j : ℕ) → get_or xs j 0 < 4294967296) → Able true z.levels (λ m i. sum (λ v. row_d (frame_of b) s v m i) a n) ys
  start-able bits = record { room = λ _ m i hi. go m i hi (dec_lt m (2 * z.width + 2)); enough = λ d. absurd (true≢false d) }
    where
      go : (m i : ℕ) → i < z.levels → Dec (m < 2 * z.width + 2) →
          get_or ys (m * z.levels + i) 0 + sum (λ v. row_d (frame_of b) s v m i) a n < 4294967296
      go m i hi (yes h) =
          let u = c.zeros (m * z.levels + i) (in-store z.width h hi) in
          let v = same_sum m i in
          let w = content-high (facts k).limits s t m i in
          omega arith
      go m i hi (no h) =
          let v = same_sum m i in
          let w : content_d (frame_of b) s t m i ≡ 0 = content-beyond (frame_of b) s t i m (omega (arith, (facts k).width)) in
          let big : 2 * z.width + 2 ≤ m = omega arith in
          let u : 2 * (z.width * z.levels) + 2 * z.levels ≤ m * z.levels + i =
          le_trans (le_of_eq (sym (store-size z.width z.levels))) (le_trans (mul-le-mul_right z.levels big) (omega arith)) in
          let q = c.rest (m * z.levels + i) u in
          let r = bits (m * z.levels + i) in
          omega arith

  pub start-done : (zs : List ℕ) → blocks_size (frame_of b) ≤ length xs → Put true z.levels (λ m i. sum (λ v. row_d (frame_of b) s v m i) a n) ys zs
      → zs ≡ column_store (frame_of b) s t ++ drop (blocks_size (frame_of b)) xs
  start-done zs long q =
      let f = facts k in
      make-holds (frame_of b) s t zs xs (q.len ∙ c.len) long (le_trans (omega arith) f.limits.sound.levels_low)
      (λ m i hm hi. cell m i (rw (← f.width) at hm) (rw (← f.levels) at hi)) (λ j h. beyond-is j h)
    where
      cell : (m i : ℕ) → m < 2 * z.width + 2 → i < z.levels → get_or zs (m * (frame_of b).set.levels + i) 0 ≡ content_d (frame_of b) s t m i
      cell m i hm hi =
          let u = c.zeros (m * z.levels + i) (in-store z.width hm hi) in
          let v = same_sum m i in
          let d = q.cells m i hi in
          let g : get_or zs (m * z.levels + i) 0 ≡ content_d (frame_of b) s t m i = omega arith in
          subst (λ (l : ℕ). get_or zs (m * l + i) 0 ≡ content_d (frame_of b) s t m i) (facts k).levels g

      beyond-is : (j : ℕ) → blocks_size (frame_of b) ≤ j → get_or zs j 0 ≡ get_or xs j 0
      beyond-is j h =
          let f = facts k in
          let low : 0 < z.levels = omega (arith, f.levels, f.limits.sound.levels_low) in
          let d : j / z.levels * z.levels + j % z.levels ≡ j = div-add-mod' j z.levels in
          let u : 2 * (z.width * z.levels) + 2 * z.levels ≤ j = le_trans (le_of_eq size_is) h in
          let big : 2 * z.width + 2 ≤ j / z.levels = far low u (dec_lt (j / z.levels) (2 * z.width + 2)) in
          let v = same_sum (j / z.levels) (j % z.levels) in
          let w : content_d (frame_of b) s t (j / z.levels) (j % z.levels) ≡ 0 =
          content-beyond (frame_of b) s t (j % z.levels) (j / z.levels) (subst (λ (n : ℕ). 2 * n + 2 ≤ j / z.levels) f.width big) in
          let g = q.cells (j / z.levels) (j % z.levels) (mod-lt j low) in
          let same : get_or zs (j / z.levels * z.levels + j % z.levels) 0 ≡ get_or ys (j / z.levels * z.levels + j % z.levels) 0 = omega arith in
          subst (λ (n : ℕ). get_or zs n 0 ≡ get_or ys n 0) d same ∙ c.rest j u
        where
          far : 0 < z.levels → 2 * (z.width * z.levels) + 2 * z.levels ≤ j → Dec (j / z.levels < 2 * z.width + 2) →
              2 * z.width + 2 ≤ j / z.levels
          far low u (no n) = omega arith
          far low u (yes n) =
              let q : j < (2 * z.width + 2) * z.levels = (div-lt_iff_lt-mul low).0 n in
              absurd (omega (arith, store-size z.width z.levels))
