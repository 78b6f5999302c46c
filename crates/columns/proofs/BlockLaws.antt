-- Changes of a store of blocks: one place, one after another, and a number of them.
-- Assumes nothing.
use mathlib.Core.Path.{◌≡◌, refl, sym, ap, ap₂, ◌∙◌, subst}
use mathlib.Core.Bool.{Bool, true, false, not, true≢false}
use mathlib.Core.List.{List, ◌++◌}
use Prim.Native.Nat.{ℕ, ◌+◌, ◌-◌, ◌*◌, ◌/◌, ◌%◌, ◌≤◌, ◌<◌}
use native.Mathlib.Nat.{le_of_eq, add-mul, mul_assoc}
use native.Mathlib.Omega.{arith}
use native.Mathlib.Decide.{ℕ_discrete}
use lib.Arith.{digits_lt, digits_div, digits_mod}
use lib.Dec.{eqb}
use lib.ListN.{length, get_or, set, take, drop, replicate, length-set}
use Rattle.std.proofs.lemmas.Grind.{common_steps}
use lib.Seq.{length-take-le, get_or-set_same, get_or-set_other}
use borrow.Author.Tests.{eq-eqb, ne_eqb}
use Rattle.std.specs.Prelude.{if◌then◌else◌}
use Rattle.spec.specs.Base.{sum, when}
use Rattle.spec.specs.declared.Plan.{Plan}
use Rattle.spec.specs.Checks.{Planned}
use Rattle.spec.proofs.Plans.{facts}
use Rattle.spec.specs.Frame.{Frame, frame_of, level, dead, guide}
use Rattle.spec.specs.Window.{span}
use Rattle.spec.proofs.Ranges.{nat_sums, fold-parts}
use Rattle.spec.proofs.Sums.{live-read, live-dead}
use Rattle.columns.specs.Blocks.{Put, Able, block, at_level, pixel_d, strip_d, row_d}
use Rattle.window.proofs.LineLaws.{fold-none, fold_more}
use Rattle.pixels.specs.Additive.{changed, Fits}
use Rattle.pixels.proofs.AdditiveLaws.{fits-down}

-- ---- one after another
pub put-none : (add : Bool) (l : ℕ) (xs : List ℕ) → Put add l (λ m i. 0) xs xs
put-none true l xs = record { len = refl; cells = λ m i h. refl }
put-none false l xs = record { len = refl; cells = λ m i h. refl }

pub put_both : (add : Bool) {l : ℕ} (D E : ℕ → ℕ → ℕ) {xs ys zs : List ℕ} → Put add l D xs ys → Put add l E ys zs →
    Put add l (λ m i. D m i + E m i) xs zs
put_both true {l} D E p q = record { len = q.len ∙ p.len; cells = λ m i h. omega (arith, p.cells m i h, q.cells m i h) }
put_both false {l} D E p q = record { len = q.len ∙ p.len; cells = λ m i h. omega (arith, p.cells m i h, q.cells m i h) }

pub put_same : (add : Bool) {l : ℕ} {D E : ℕ → ℕ → ℕ} {xs ys : List ℕ} → ((m i : ℕ) → i < l → D m i ≡ E m i) → Put add l D xs ys → Put add l E xs ys
put_same true e p = record { len = p.len; cells = λ m i h. omega (arith, p.cells m i h, e m i h) }
put_same false e p = record { len = p.len; cells = λ m i h. omega (arith, p.cells m i h, e m i h) }

pub able-less : (add : Bool) {l : ℕ} {D E : ℕ → ℕ → ℕ} {xs : List ℕ} → ((m i : ℕ) → i < l → E m i ≤ D m i) → Able add l D xs → Able add l E xs
able-less add e a =
    record { room = λ t m i h. omega (arith, a.room t m i h, e m i h); enough = λ t m i h. omega (arith, a.enough t m i h, e m i h) }

pub able-then : (add : Bool) {l : ℕ} (D E : ℕ → ℕ → ℕ) {xs ys : List ℕ} → Able add l (λ m i. D m i + E m i) xs → Put add l D xs ys → Able add l E ys
able-then true D E a p =
    record { room = λ t m i h. omega (arith, a.room t m i h, p.cells m i h); enough = λ t m i h. absurd (true≢false t) }
able-then false D E a p =
    record { room = λ t m i h. absurd (true≢false (sym t)); enough = λ t m i h. omega (arith, a.enough t m i h, p.cells m i h) }

-- ---- one place
apart : {m i m' i' l : ℕ} → i < l → i' < l → m * l + i ≡ m' * l + i' → (m ≡ m') × (i ≡ i')
apart {m} {i} {m'} {i'} {l} h k e = (
  sym (digits_div m h) ∙ ap (λ (n : ℕ). n / l) e ∙ digits_div m' k,
  sym (digits_mod m h) ∙ ap (λ (n : ℕ). n % l) e ∙ digits_mod m' k,
)

pub put_one : (add : Bool) (l m i v : ℕ) (xs : List ℕ) → i < l → m * l + i < length xs → (add ≡ false → v ≤ get_or xs (m * l + i) 0)
    → Put add l (block m (λ j. if eqb i j then v else 0)) xs
    (set xs (m * l + i) (changed add (get_or xs (m * l + i) 0) v))
unfolding changed
put_one add l m i v xs hi hm low = record { len = length-set xs _ _; cells = λ m' j h. go add low m' j h (ℕ_discrete m' m) (ℕ_discrete i j) }
  where
    same : (m' j u : ℕ) → m' ≡ m → i ≡ j → get_or (set xs (m * l + i) u) (m' * l + j) 0 ≡ u
    same m' j u d e = rw (d, ← e) (get_or-set_same xs (m * l + i) u 0 hm)

    other : (m' j u : ℕ) → j < l → ((m' ≡ m) → (i ≡ j) → ⊥) → get_or (set xs (m * l + i) u) (m' * l + j) 0 ≡ get_or xs (m' * l + j) 0
    other m' j u h n = get_or-set_other xs (m * l + i) (m' * l + j) u 0 (λ e. let q = apart h hi e in n q.0 (sym q.1))

    here : (m' j : ℕ) → m' ≡ m → i ≡ j → block m (λ k. if eqb i k then v else 0) m' j ≡ v
    here m' j d e = rw (eq-eqb m' m d, eq-eqb i j e) refl

    nowhere : (m' j : ℕ) → ((m' ≡ m) → (i ≡ j) → ⊥) → Dec (m' ≡ m) → Dec (i ≡ j) → block m (λ k. if eqb i k then v else 0) m' j ≡ 0
    nowhere m' j n (yes d) (yes e) = absurd (n d e)
    nowhere m' j n (yes d) (no e) = rw (eq-eqb m' m d, ne_eqb i j e) refl
    nowhere m' j n (no d) x = rw (ne_eqb m' m d) refl

    at_same : (m' j : ℕ) → m' ≡ m → i ≡ j → get_or xs (m' * l + j) 0 ≡ get_or xs (m * l + i) 0
    at_same m' j d e = rw (d, e) refl

    go : (add : Bool) → (add ≡ false → v ≤ get_or xs (m * l + i) 0) → (m' j : ℕ) → j < l → Dec (m' ≡ m) → Dec (i ≡ j)
        → get_or (set xs (m * l + i) (changed add (get_or xs (m * l + i) 0) v)) (m' * l + j) 0
        + when (not add) (block m (λ k. if eqb i k then v else 0) m' j)
        ≡ get_or xs (m' * l + j) 0 + when add (block m (λ k. if eqb i k then v else 0) m' j)
    go true low m' j h (yes d) (yes e) =
        omega (arith, same m' j (get_or xs (m * l + i) 0 + v) d e, here m' j d e, at_same m' j d e)
    go false low m' j h (yes d) (yes e) =
        let q : v ≤ get_or xs (m * l + i) 0 = low refl in
        omega (arith, same m' j (get_or xs (m * l + i) 0 - v) d e, here m' j d e, at_same m' j d e)
    go true low m' j h (yes d) (no e) =
        omega (arith, other m' j (get_or xs (m * l + i) 0 + v) h (λ a b. e b), nowhere m' j (λ a b. e b) (yes d) (no e))
    go false low m' j h (yes d) (no e) =
        omega (arith, other m' j (get_or xs (m * l + i) 0 - v) h (λ a b. e b), nowhere m' j (λ a b. e b) (yes d) (no e))
    go true low m' j h (no d) x =
        omega (arith, other m' j (get_or xs (m * l + i) 0 + v) h (λ a b. d a), nowhere m' j (λ a b. d a) (no d) x)
    go false low m' j h (no d) x =
        omega (arith, other m' j (get_or xs (m * l + i) 0 - v) h (λ a b. d a), nowhere m' j (λ a b. d a) (no d) x)

-- ---- one after another: P a, P (a + 1), .. , n of them, as far as P c
pub record Piled (add : Bool) (l : ℕ) (P : ℕ → ℕ → ℕ → ℕ) (a n : ℕ) (xs ys : List ℕ) (c : ℕ) : Type 0 where
  pub from : a ≤ c
  pub put : Put add l (λ m i. sum (λ v. P v m i) a (c - a)) xs ys

pub pile-start : (add : Bool) (l : ℕ) (P : ℕ → ℕ → ℕ → ℕ) (a n : ℕ) (xs : List ℕ) → Piled add l P a n xs xs a
pile-start add l P a n xs =
    let z : a - a ≡ 0 = omega arith in
    record { from = omega arith; put = rw z (put_same add (λ m i h. sym (fold-none ◌+◌ 0 (λ v. P v m i) a)) (put-none add l xs)) }

pub pile-next : {add : Bool} {l : ℕ} {P : ℕ → ℕ → ℕ → ℕ} {a n : ℕ} {xs ys zs : List ℕ} {c : ℕ} → Piled add l P a n xs ys c
    → Put add l (P c) ys zs → Piled add l P a n xs zs (c + 1)
pile-next {add} {l} {P} {a} {n} {xs} {ys} {zs} {c} v q =
    record {
      from = omega arith;
      put = put_same add (λ m i _. last m i) (put_both add (λ m i. sum (λ v. P v m i) a (c - a)) (P c) v.put q);
    }
  where
    last : (m i : ℕ) → sum (λ v. P v m i) a (c - a) + P c m i ≡ sum (λ v. P v m i) a (c + 1 - a)
    last m i =
        let e : a + (c - a) ≡ c = omega arith in
        let d : c - a + 1 ≡ c + 1 - a = omega arith in
        rw e at (rw d at (sym (fold_more ◌+◌ 0 (λ v. P v m i) a (c - a))))

-- a part of a sum is at most the whole
sum-part : (f : ℕ → ℕ) (a k n : ℕ) → k ≤ n → sum f a k ≤ sum f a n
sum-part f a k n h =
    let d : n ≡ k + (n - k) = omega arith in
    let q : sum f a n ≡ sum f a k + sum f (a + k) (n - k) = ap (λ (m : ℕ). sum f a m) d ∙ fold-parts ◌+◌ 0 nat_sums f a k (n - k) in
    omega arith

pub pile-able : {add : Bool} {l : ℕ} {P : ℕ → ℕ → ℕ → ℕ} {a n : ℕ} {xs ys : List ℕ} {c : ℕ} → Piled add l P a n xs ys c → c < a + n
    → Able add l (λ m i. sum (λ v. P v m i) a n) xs → Able add l (P c) ys
pile-able {add} {l} {P} {a} {n} {xs} {ys} {c} v h able =
    able-then add (λ m i. sum (λ v. P v m i) a (c - a)) (P c) (able-less add (λ m i _. some m i) able) v.put
  where
    some : (m i : ℕ) → sum (λ v. P v m i) a (c - a) + P c m i ≤ sum (λ v. P v m i) a n
    some m i =
        let e : a + (c - a) ≡ c = omega (arith, v.from) in
        let q = rw e at (fold_more ◌+◌ 0 (λ v. P v m i) a (c - a)) in
        let r = sum-part (λ v. P v m i) a (c - a + 1) n (omega (arith, v.from)) in
        omega arith

pub pile-end : {add : Bool} {l : ℕ} {P : ℕ → ℕ → ℕ → ℕ} {a n : ℕ} {xs ys : List ℕ} {c : ℕ} → Piled add l P a n xs ys c → c ≡ a + n
    → Put add l (λ m i. sum (λ v. P v m i) a n) xs ys
pile-end {add} {l} {P} {a} {n} {xs} {ys} {c} v h = let e : c - a ≡ n = omega arith in rw e at v.put

-- ---- a place of a block is in the store
pub store-size : (w l : ℕ) → (2 * w + 2) * l ≡ 2 * (w * l) + 2 * l
store-size w l = add-mul (2 * w) 2 l ∙ ap (λ (n : ℕ). n + 2 * l) (mul_assoc 2 w l)

pub in-store : (w : ℕ) {a i l : ℕ} → a < 2 * w + 2 → i < l → a * l + i < 2 * (w * l) + 2 * l
in-store w {a} {i} {l} h k = subst (λ (n : ℕ). a * l + i < n) (store-size w l) (digits_lt h k)

-- ---- a pixel
module _ (p : Frame) (x y : ℕ) where
  pub able-first : (add : Bool) (a b : ℕ) {l : ℕ} {xs : List ℕ} → Able add l (pixel_d p a b x y) xs →
      Able add l (block a (at_level p (λ u v. 1) x y)) xs
  unfolding pixel_d
  able-first add a b k = able-less add (λ m i h. omega arith) k

  pub able-second : (add : Bool) (a b : ℕ) {l : ℕ} {xs ys : List ℕ} → Able add l (pixel_d p a b x y) xs →
      Put add l (block a (at_level p (λ u v. 1) x y)) xs ys
      → Able add l (block b (at_level p (guide p) x y)) ys
  unfolding pixel_d
  able-second add a b k q = able-then add (block a (at_level p (λ u v. 1) x y)) (block b (at_level p (guide p) x y)) k q

  pub put-pixel : (add : Bool) (a b : ℕ) {l : ℕ} {xs ys zs : List ℕ} → Put add l (block a (at_level p (λ u v. 1) x y)) xs ys →
      Put add l (block b (at_level p (guide p) x y)) ys zs
      → Put add l (pixel_d p a b x y) xs zs
  unfolding pixel_d
  put-pixel add a b q r = put_both add (block a (at_level p (λ u v. 1) x y)) (block b (at_level p (guide p) x y)) q r

  -- a dead one is passed over
  nothing : (f : ℕ → ℕ → ℕ) (a m i : ℕ) → dead p x y ≡ true → block a (at_level p f x y) m i ≡ 0
  nothing f a m i r = rw (live-dead 0 p (λ u v. if eqb (level p u v) i then f u v else 0) x y r) (none (eqb m a))
    where
      none : (q : Bool) → ◌≡◌ {A = ℕ} (if q then 0 else 0) 0
      none true = refl
      none false = refl

  pub put-dead : (add : Bool) (a b l : ℕ) (xs : List ℕ) → dead p x y ≡ true → Put add l (pixel_d p a b x y) xs xs
  unfolding pixel_d
  put-dead add a b l xs r = put_same add (λ m i _. sym (ap₂ ◌+◌ (nothing (λ u v. 1) a m i r) (nothing (guide p) b m i r))) (put-none add l xs)

  -- one with a reading
  module _ (r : dead p x y ≡ false) where
    here : (f : ℕ → ℕ → ℕ) (i : ℕ) → at_level p f x y i ≡ (if eqb (level p x y) i then f x y else 0)
    here f i = live-read 0 p (λ u v. if eqb (level p u v) i then f u v else 0) x y r

    full : (f : ℕ → ℕ → ℕ) (a i : ℕ) → i ≡ level p x y → block a (at_level p f x y) a i ≡ f x y
    full f a i e = rw (eq-eqb a a refl) (here f i ∙ rw (eq-eqb (level p x y) i (sym e)) refl)

    pub asks : (f : ℕ → ℕ → ℕ) (add : Bool) (a i v : ℕ) {l : ℕ} {xs : List ℕ} → i ≡ level p x y → v ≡ f x y → i < l →
        Able add l (block a (at_level p f x y)) xs
        → Fits 4294967296 add (get_or xs (a * l + i) 0) v
    asks f true a i v e d h k = let q = full f a i e in let r = k.room refl a i h in omega arith
    asks f false a i v e d h k = let q = full f a i e in let r = k.enough refl a i h in omega arith

    pub count-put : (f : ℕ → ℕ → ℕ) (add : Bool) (a i v : ℕ) {l : ℕ} {xs ys : List ℕ} → i ≡ level p x y → v ≡ f x y → i < l → a * l + i < length xs
        → Able add l (block a (at_level p f x y)) xs → ys ≡ set xs (a * l + i) (changed add (get_or xs (a * l + i) 0) v)
        → Put add l (block a (at_level p f x y)) xs ys
    count-put f add a i v {l} {xs} {ys} e d h s k q =
        put_same add
        (λ m j _. ap (λ (n : ℕ). if eqb m a then n else 0) (ap₂ (λ (c n : ℕ). if eqb c j then n else 0) e d ∙ sym (here f j)))
        (subst (λ (ys : List ℕ). Put add l (block a (λ j. if eqb i j then v else 0)) xs ys) (sym q)
        (put_one add l a i v xs h s (λ t. fits-down 4294967296 add _ v t (asks f add a i v e d h k))))

-- ---- a strip, and a row of two strips
module _ (p : Frame) (add : Bool) (y a b apart first n : ℕ) {l : ℕ} {xs : List ℕ} where
  pub strip-able : Able add l (strip_d p y a b apart first n) xs →
      Able add l (λ m i. sum (λ x. pixel_d p (a + x * apart) (b + x * apart) x y m i) first n) xs
  unfolding strip_d
  strip-able k = k

  pub strip-put : {ys : List ℕ} → Put add l (λ m i. sum (λ x. pixel_d p (a + x * apart) (b + x * apart) x y m i) first n) xs ys →
      Put add l (strip_d p y a b apart first n) xs ys
  unfolding strip_d
  strip-put k = k

module _ {b : List ℕ} {z : Plan} (pl : Planned b z) (add : Bool) (s left n y : ℕ) (el : left ≡ s - z.radius) (en : n ≡ span z.radius s z.width) where
  abbrev columns_d : ℕ → ℕ → ℕ
  columns_d = strip_d (frame_of b) y 0 z.width 1 0 z.width

  abbrev window_d : ℕ → ℕ → ℕ
  window_d = strip_d (frame_of b) y (2 * z.width) (2 * z.width + 1) 0 left n

  row_is : (m i : ℕ) → columns_d m i + window_d m i ≡ row_d (frame_of b) s y m i
  unfolding row_d
  row_is m i = let f = facts pl in rw (el, en, f.radius, f.width) refl

  both-able : {l : ℕ} {xs : List ℕ} → Able add l (row_d (frame_of b) s y) xs → Able add l (λ m i. columns_d m i + window_d m i) xs
  both-able k = able-less add (λ m i h. le_of_eq (row_is m i)) k

  pub row_first : {l : ℕ} {xs : List ℕ} → Able add l (row_d (frame_of b) s y) xs → Able add l columns_d xs
  row_first k = able-less add (λ m i h. omega arith) (both-able k)

  pub row-second : {l : ℕ} {xs ys : List ℕ} → Able add l (row_d (frame_of b) s y) xs → Put add l columns_d xs ys → Able add l window_d ys
  row-second k q = able-then add columns_d window_d (both-able k) q

  pub row_put : {l : ℕ} {xs ys zs : List ℕ} → Put add l columns_d xs ys → Put add l window_d ys zs → Put add l (row_d (frame_of b) s y) xs zs
  row_put q u = put_same add (λ m i h. row_is m i) (put_both add columns_d window_d q u)

-- ---- clearing: the first n numbers are 0, and the others as they were
pub record Cleared (n : ℕ) (xs ys : List ℕ) : Type 0 where
  pub len : length ys ≡ length xs
  pub zeros : (j : ℕ) → j < n → get_or ys j 0 ≡ 0
  pub rest : (j : ℕ) → n ≤ j → get_or ys j 0 ≡ get_or xs j 0

pub cleared : (n : ℕ) (xs ys : List ℕ) → n ≤ length xs → ys ≡ replicate (length (take n xs)) 0 → Cleared n xs (ys ++ drop n xs)
cleared n xs ys h e = rw (e, length-take-le n xs h) (record {
  len = grind (arith, common_steps);
  zeros = λ j l. grind (arith, common_steps);
  rest = λ j l. grind (arith, common_steps);
})
