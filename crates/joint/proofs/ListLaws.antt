-- The stores as lists: a store holds a window's counts exactly if its lists begin with the window's. Assumes nothing.
use mathlib.Core.Path.{◌≡◌, refl, sym, ap, ap₂, ◌∙◌, subst}
use mathlib.Core.Logic.{⊎_elim}
use mathlib.Core.Bool.{Bool, true, false, ◌&&◌}
use mathlib.Core.List.{List, ◌++◌}
use Prim.Native.Nat.{ℕ, zero, suc, ◌+◌, ◌*◌, ◌/◌, ◌%◌, ◌^◌, ◌≤◌, ◌<◌, min}
use native.Mathlib.Nat.{zero-add, pow-succ', div-add-mod', mod-lt, mul_comm, mul_assoc, mul-zero, div-lt_iff_lt-mul}
use native.Mathlib.Omega.{arith}
use lib.Arith.{digits_div, digits_mod}
use lib.Dec.{ltb, eqb}
use lib.ListN.{length, get_or, take, drop, length-append, length-drop, get_or-append, take-append-drop}
use lib.Seq.{length-take-le, get_or-take, ext_get_or}
use borrow.Author.Tests.{ne_eqb, lt-ltb}
use Rattle.ints.specs.Order.{lt-or-le, eq-or-ne}
use Rattle.spec.specs.Base.{indicator, fold, sum}
use Rattle.spec.specs.Frame.{Frame, level, guide}
use Rattle.spec.specs.Window.{in_cell, count, pixel_count, InWindow}
use Rattle.spec.specs.Joint.{joint_counts, words_per_level, occupancy_word, occupancy_words}
use Rattle.spec.proofs.Ranges.{nat_sums}
use Rattle.spec.proofs.First.{get_d_tabulate, length-tabulate}
use Rattle.spec.proofs.Sums.{over-in_window, over-constant}
use Rattle.spec.proofs.Limits.{Pixel}
use Rattle.joint_pixel.specs.Bit.{bit}
use Rattle.joint_pixel.specs.Store.{cell_at, word_at, words_per, count_in, Rep}
use Rattle.joint_pixel.proofs.BitLaws.{bit-zero, bit-suc}
use Rattle.joint_pixel.proofs.RepLaws.{rep-eq, count-in, count-out}

-- ---- a number and its bits
below : (n x d j : ℕ) → j < n → bit (x + d * 2 ^ n) j ≡ bit x j
below zero x d j h = absurd (omega arith)
below (suc n) x d zero h =
    bit-zero (x + d * 2 ^ suc n) ∙ ap (λ (q : ℕ). (x + d * q) % 2) (pow-succ' 2 n) ∙ go (2 ^ n) ∙ sym (bit-zero x)
  where
    go : (q : ℕ) → (x + d * (2 * q)) % 2 ≡ x % 2
    go q = let e : d * (2 * q) ≡ 2 * (d * q) = sym (mul_assoc d 2 q) ∙ ap (λ (k : ℕ). k * q) (mul_comm d 2) ∙ mul_assoc 2 d q in rw e (omega arith)
below (suc n) x d (suc j) h =
    bit-suc (x + d * 2 ^ suc n) j ∙ ap (λ (q : ℕ). bit ((x + d * q) / 2) j) (pow-succ' 2 n) ∙ ap (λ (q : ℕ). bit q j) (go (2 ^ n)) ∙ below n (x / 2)
    d j (omega arith) ∙ sym (bit-suc x j)
  where
    go : (q : ℕ) → (x + d * (2 * q)) / 2 ≡ x / 2 + d * q
    go q = let e : d * (2 * q) ≡ 2 * (d * q) = sym (mul_assoc d 2 q) ∙ ap (λ (k : ℕ). k * q) (mul_comm d 2) ∙ mul_assoc 2 d q in rw e (omega arith)

top : (n x d : ℕ) → x < 2 ^ n → d ≤ 1 → bit (x + d * 2 ^ n) n ≡ d
unfolding bit
top n x d h k =
    ap (λ (q : ℕ). q / 2 ^ n % 2) (native.Mathlib.Nat.add_comm x (d * 2 ^ n)) ∙ ap (λ (q : ℕ). q % 2) (digits_div d h) ∙
    native.Mathlib.Nat.mod-eq_of_lt (omega arith)

module _ (d : ℕ → ℕ) (one : (k : ℕ) → d k ≤ 1) where
  abbrev digits : ℕ → ℕ
  digits n = sum (λ k. d k * 2 ^ k) 0 n

  digits-next : (n : ℕ) → digits (suc n) ≡ digits n + d n * 2 ^ n
  unfolding fold
  digits-next n = ap (λ (q : ℕ). digits n + d q * 2 ^ q) (zero-add n)

  digits-none : digits 0 < 2 ^ 0
  unfolding fold
  digits-none = lib.Dec.lit< tt

  pub digits_lt : (n : ℕ) → digits n < 2 ^ n
  digits_lt zero = digits-none
  digits_lt (suc n) =
      rw (digits-next n)
      (go (2 ^ suc n) (2 ^ n) (pow-succ' 2 n) (digits n) (d n * 2 ^ n) (digits_lt n)
      (native.Mathlib.Nat.mul-le-mul (one n) (native.Mathlib.Nat.le_refl (2 ^ n))))
    where
      go : (p q : ℕ) → p ≡ 2 * q → (x y : ℕ) → x < q → y ≤ 1 * q → x + y < p
      go p q e x y h k = omega arith

  pub digits-bit : (n j : ℕ) → j < n → bit (digits n) j ≡ d j
  digits-bit zero j h = absurd (omega arith)
  digits-bit (suc n) j h = ⊎_elim last (λ ne. before ne (λ l. digits-bit n j l)) (eq-or-ne j n)
    where
      last : j ≡ n → bit (digits (suc n)) j ≡ d j
      last e = rw e (ap (λ (q : ℕ). bit q n) (digits-next n) ∙ top n (digits n) (d n) (digits_lt n) (one n))

      before : (j ≡ n → ⊥) → (j < n → bit (digits n) j ≡ d j) → bit (digits (suc n)) j ≡ d j
      before ne ih = ap (λ (q : ℕ). bit q j) (digits-next n) ∙ below n (digits n) (d n) j (omega arith) ∙ ih (omega arith)

pub same_bits : (n x y : ℕ) → x < 2 ^ n → y < 2 ^ n → ((j : ℕ) → j < n → bit x j ≡ bit y j) → x ≡ y
same_bits zero x y hx hy h = none x y hx hy
  where
    none : (x y : ℕ) → x < 1 → y < 1 → x ≡ y
    none x y u v = omega arith
same_bits (suc n) x y hx hy h =
    let low : x % 2 ≡ y % 2 = sym (bit-zero x) ∙ h 0 (omega arith) ∙ bit-zero y in
    let high : x / 2 ≡ y / 2 =
    same_bits n (x / 2) (y / 2) (less x (2 ^ suc n) (2 ^ n) (pow-succ' 2 n) hx) (less y (2 ^ suc n) (2 ^ n) (pow-succ' 2 n) hy)
    (λ j l. sym (bit-suc x j) ∙ h (suc j) (omega arith) ∙ bit-suc y j) in
    omega arith
  where
    less : (x p q : ℕ) → p ≡ 2 * q → x < p → x / 2 < q
    less x p q e h = omega arith

-- ---- a list that begins with another
pub begins : {A : Type 0} (d : A) (n : ℕ) (xs ys : List A) → length ys ≡ n → n ≤ length xs → ((k : ℕ) → k < n → get_or xs k d ≡ get_or ys k d) →
    xs ≡ ys ++ drop n xs
begins d n xs ys e h same =
    sym (take-append-drop n xs)
    ∙ ap (λ (q : List _). q ++ drop n xs)
    (ext_get_or d (take n xs) ys (length-take-le n xs h ∙ sym e) (λ i l. let k : i < n =
    subst (λ (m : ℕ). i < m) (length-take-le n xs h) l in get_or-take n xs i d k ∙ same i k))

pub begun : {A : Type 0} (d : A) (n : ℕ) (xs ys : List A) → length ys ≡ n → xs ≡ ys ++ drop n xs → (k : ℕ) → k < n → get_or xs k d ≡ get_or ys k d
begun d n xs ys e eq k h = ap (λ (q : List _). get_or q k d) eq ∙ get_or-append ys (drop n xs) d k (rw e h)

pub begun-long : {A : Type 0} (n : ℕ) (xs ys : List A) → length ys ≡ n → xs ≡ ys ++ drop n xs → n ≤ length xs
begun-long n xs ys e eq =
    let l : length xs ≡ length ys + length (drop n xs) = ap length eq ∙ length-append ys (drop n xs) in
    omega (arith, length-drop n xs)

-- ---- the store's own counts
pub rep-own : (l m : ℕ) (cnt : ℕ → ℕ → ℕ) (xs ws : List ℕ) → Rep l m cnt xs ws → (i f : ℕ) → i < l → cnt i f ≡ count_in m xs i f
rep-own l m cnt xs ws r i f h =
    ⊎_elim (λ u. sym (r.cells i f h u) ∙ sym (count-in m i f xs u)) (λ u. r.outside i f h u ∙ sym (count-out m i f xs u)) (lt-or-le f m)

pub rep-self : (l m : ℕ) (cnt : ℕ → ℕ → ℕ) (xs ws : List ℕ) → Rep l m cnt xs ws → Rep l m (count_in m xs) xs ws
rep-self l m cnt xs ws r = rep-eq l m cnt (count_in m xs) xs ws (rep-own l m cnt xs ws r) r

-- ---- a window's lists
module _ (p : Frame) (s t : ℕ) (spot : Pixel p s t) where
  abbrev L : ℕ
  L = p.set.levels

  abbrev M : ℕ
  M = p.set.guides

  abbrev K : ℕ
  K = words_per_level p.set

  pub count_none : (i f : ℕ) → M ≤ f → count p s t i f ≡ 0
  unfolding count
  count_none i f h =
      over-in_window ◌+◌ 0 nat_sums p s t (in_cell p i f) (λ x y. 0) (λ x y q. zero-at x y q) ∙ over-constant p s t 0 ∙ mul-zero (pixel_count p s t)
    where
      and-false : (c : Bool) → indicator (c && false) ≡ 0
      and-false true = refl
      and-false false = refl

      zero-at : (x y : ℕ) → InWindow p s t x y → in_cell p i f x y ≡ 0
      zero-at x y q =
          let ne : guide p x y ≡ f → ⊥ = λ e. omega (arith, spot.good.guide-low x y q.wide q.high) in
          rw (ne_eqb (guide p x y) f ne) (and-false (eqb (level p x y) i))

  one-min : (n : ℕ) → indicator (ltb 0 n) ≡ min 1 n
  one-min zero = refl
  one-min (suc n) = rw (lt-ltb 0 (suc n) (omega arith)) (omega arith)

  one-le : (c : Bool) → indicator c ≤ 1
  one-le true = omega arith
  one-le false = omega arith

  word-bit : (i j c : ℕ) → c < 64 → bit (occupancy_word p s t i j) c ≡ min 1 (count p s t i (64 * j + c))
  unfolding occupancy_word
  word-bit i j c h =
      digits-bit (λ c. indicator (ltb 0 (count p s t i (64 * j + c)))) (λ c. one-le (ltb 0 (count p s t i (64 * j + c)))) 64 c h ∙ one-min
      (count p s t i (64 * j + c))

  word_lt : (i j : ℕ) → occupancy_word p s t i j < 2 ^ 64
  unfolding occupancy_word
  word_lt i j = digits_lt (λ c. indicator (ltb 0 (count p s t i (64 * j + c)))) (λ c. one-le (ltb 0 (count p s t i (64 * j + c)))) 64

  pub counts-long : length (joint_counts p s t) ≡ L * M
  unfolding joint_counts
  counts-long = length-tabulate (L * M) _

  pub bits-long : length (occupancy_words p s t) ≡ L * K
  unfolding occupancy_words
  bits-long = length-tabulate (L * K) _

  count_at : (i f : ℕ) → i < L → f < M → get_or (joint_counts p s t) (cell_at M i f) 0 ≡ count p s t i f
  unfolding joint_counts
  count_at i f h k =
      get_d_tabulate (L * M) _ (cell_at M i f) 0 (lib.Arith.digits_lt h k) ∙ ap₂ (λ (a c : ℕ). count p s t a c) (digits_div i k) (digits_mod i k)

  word-at : (i j : ℕ) → i < L → j < K → get_or (occupancy_words p s t) (i * K + j) 0 ≡ occupancy_word p s t i j
  unfolding occupancy_words
  word-at i j h k =
      get_d_tabulate (L * K) _ (i * K + j) 0 (lib.Arith.digits_lt h k) ∙ ap₂ (λ (a c : ℕ). occupancy_word p s t a c) (digits_div i k) (digits_mod i k)

  pub lists-rep : (xs ws : List ℕ) → xs ≡ joint_counts p s t ++ drop (L * M) xs → ws ≡ occupancy_words p s t ++ drop (L * K) ws →
      Rep L M (count p s t) xs ws
  lists-rep xs ws ex ew = record {
    outside = λ i g u h. count_none i g h;
    cells = λ i f h k. begun 0 (L * M) xs (joint_counts p s t) counts-long ex (cell_at M i f) (lib.Arith.digits_lt h k) ∙ count_at i f h k;
    marks = λ i g h k. mark i g h k;
  }
    where
      mark : (i g : ℕ) → i < L → g < words_per M * 64 → bit (get_or ws (word_at M i g) 0) (g % 64) ≡ min 1 (count p s t i g)
      mark i g h k =
          let j : g / 64 < K = omega arith in
          ap (λ (q : ℕ). bit q (g % 64))
          (begun 0 (L * K) ws (occupancy_words p s t) bits-long ew (word_at M i g) (lib.Arith.digits_lt h j) ∙ word-at i (g / 64) h j)
          ∙ word-bit i (g / 64) (g % 64) (omega arith) ∙ ap (λ (q : ℕ). min 1 (count p s t i q)) (whole g)
        where
          whole : (g : ℕ) → 64 * (g / 64) + g % 64 ≡ g
          whole g = omega arith

  pub rep-counts : (xs ws : List ℕ) → Rep L M (count p s t) xs ws → L * M ≤ length xs → xs ≡ joint_counts p s t ++ drop (L * M) xs
  rep-counts xs ws r h = begins 0 (L * M) xs (joint_counts p s t) counts-long h (λ k l. each k l)
    where
      each : (k : ℕ) → k < L * M → get_or xs k 0 ≡ get_or (joint_counts p s t) k 0
      each k l =
          let m0 : 0 < M = omega (arith, spot.good.sound.guides_low) in
          let e : k / M * M + k % M ≡ k = div-add-mod' k M in
          let f : k % M < M = mod-lt k m0 in
          let i : k / M < L = (div-lt_iff_lt-mul m0).1 l in
          ap (λ (q : ℕ). get_or xs q 0) (sym e) ∙ r.cells (k / M) (k % M) i f ∙ sym (count_at (k / M) (k % M) i f) ∙ ap
          (λ (q : ℕ). get_or (joint_counts p s t) q 0) e

  pub rep-bits : (xs ws : List ℕ) → Rep L M (count p s t) xs ws → L * K ≤ length ws → ((k : ℕ) → get_or ws k 0 < 2 ^ 64) →
      ws ≡ occupancy_words p s t ++ drop (L * K) ws
  rep-bits xs ws r h fit = begins 0 (L * K) ws (occupancy_words p s t) bits-long h (λ k l. each k l)
    where
      at : (i j : ℕ) → i < L → j < K → get_or ws (i * K + j) 0 ≡ occupancy_word p s t i j
      at i j u v = same_bits 64 (get_or ws (i * K + j) 0) (occupancy_word p s t i j) (fit (i * K + j)) (word_lt i j) (λ c l. one c l)
        where
          one : (c : ℕ) → c < 64 → bit (get_or ws (i * K + j) 0) c ≡ bit (occupancy_word p s t i j) c
          one c l =
              let q : (64 * j + c) / 64 ≡ j = omega arith in
              let m : (64 * j + c) % 64 ≡ c = omega arith in
              (rw (q, m) at (r.marks i (64 * j + c) u (omega arith))) ∙ sym (word-bit i j c l)

      each : (k : ℕ) → k < L * K → get_or ws k 0 ≡ get_or (occupancy_words p s t) k 0
      each k l =
          let m0 : 0 < K = omega (arith, spot.good.sound.guides_low) in
          let e : k / K * K + k % K ≡ k = div-add-mod' k K in
          let j : k % K < K = mod-lt k m0 in
          let i : k / K < L = (div-lt_iff_lt-mul m0).1 l in
          ap (λ (q : ℕ). get_or ws q 0) (sym e) ∙ at (k / K) (k % K) i j ∙ sym (word-at (k / K) (k % K) i j) ∙ ap
          (λ (q : ℕ). get_or (occupancy_words p s t) q 0) e
