-- Laws of the occupied guides of a level, and of sums that pass over the others.
-- Assumes nothing.
use mathlib.Core.Path.{◌≡◌, refl, sym, ap, ◌∙◌, subst}
use mathlib.Core.Logic.{⊎_elim}
use mathlib.Core.List.{List, ◌∷◌}
use Prim.Native.Nat.{ℕ, zero, suc, ◌+◌, ◌-◌, ◌*◌, ◌/◌, ◌%◌, ◌^◌, ◌≤◌, ◌<◌, min}
use native.Mathlib.Nat.{
  zero-add,
  add-zero,
  add-suc,
  mul-le-mul,
  zero-mul,
  le_trans,
  le_refl,
  lt_of_le_of_lt,
  le_of_suc-le-suc,
  pow-succ',
  pos_of_ne-zero,
}
use native.Mathlib.Numerals.{add-one}
use native.Mathlib.Omega.{arith}
use lib.Bits.{bit_and, and_le_l}
use lib.Count.{count_trailing_zeros, under}
use lib.ListN.{length, get_or, get_or-eq_default, drop, length-take, length-drop}
use Rattle.std.proofs.lemmas.List.{get_or-take, get_or-drop}
use Rattle.ints.specs.Order.{eq-or-ne}
use borrow.Author.Tests.{eq-eqb, ne_eqb, lt-ltb, le-ltb}
use Rattle.spec.specs.Base.{fold, sum}
use Rattle.spec.proofs.Sums.{sum-none, sum-suc}
use Rattle.joint_pixel.specs.Bit.{bit}
use Rattle.joint_pixel.specs.Store.{cell_at, words_per, count_in}
use Rattle.joint_pixel.proofs.BitLaws.{lt-or-le, bit-none, bit-zero, bit-suc, bit-and, bit_high, tz-found, tz-below}
use Rattle.joint_pixel.proofs.RepLaws.{count-in, count-out}
use Rattle.joint_cells.specs.declared.scan.Occupied.{Occupied}
use Rattle.joint_cells.specs.Scan.{words_of, bit_of, left, IsNext, place_of, Scans, Marked, RowFits, cell_sum, cell_dot}

-- ---- the lowest bit of a word
tz-pos : (w : ℕ) → w < 2 ^ 64 → 0 < w → (bit w (count_trailing_zeros 64 w) ≡ 1) × (count_trailing_zeros 64 w < 64)
tz-pos w h p =
    (found, ⊎_elim (λ l. l) (λ l. absurd (omega (arith, found, bit_high 64 w (count_trailing_zeros 64 w) h l))) (lt-or-le (count_trailing_zeros 64 w) 64))
  where
    found : bit w (count_trailing_zeros 64 w) ≡ 1
    found = tz-found 64 w p h

half_lt : (q p s : ℕ) → p ≡ 2 * s → q < p → q / 2 < s
half_lt q p s e h = omega arith

-- one less has that bit clear, and the bits above it as they were
pred-above : (d q j : ℕ) → 0 < q → q < 2 ^ d → count_trailing_zeros d q < j → bit (q - 1) j ≡ bit q j
unfolding count_trailing_zeros
pred-above zero q j h w l = absurd (omega arith)
pred-above (suc d) q zero h w l = absurd (omega arith)
pred-above (suc d) q (suc j) h w l = go (q % 2) refl l (λ p m. pred-above d (q / 2) j p (half_lt q (2 ^ suc d) (2 ^ d) (pow-succ' 2 d) w) m)
  where
    go : (r : ℕ) → q % 2 ≡ r → under r (count_trailing_zeros d (q / 2)) < suc j →
        (0 < q / 2 → count_trailing_zeros d (q / 2) < j → bit (q / 2 - 1) j ≡ bit (q / 2) j) → bit (q - 1) (suc j) ≡ bit q (suc j)
    go zero e m ih =
        let half : (q - 1) / 2 ≡ q / 2 - 1 = omega arith in
        bit-suc (q - 1) j ∙ ap (λ (x : ℕ). bit x j) half ∙ ih (omega arith) (le_of_suc-le-suc m) ∙ sym (bit-suc q j)
    go (suc r) e m ih =
        let half : (q - 1) / 2 ≡ q / 2 = omega arith in
        bit-suc (q - 1) j ∙ ap (λ (x : ℕ). bit x j) half ∙ sym (bit-suc q j)

pred-at : (d q : ℕ) → 0 < q → q < 2 ^ d → bit (q - 1) (count_trailing_zeros d q) ≡ 0
unfolding count_trailing_zeros
pred-at zero q h l = absurd (omega arith)
pred-at (suc d) q h l = go (q % 2) refl (λ p. pred-at d (q / 2) p (half_lt q (2 ^ suc d) (2 ^ d) (pow-succ' 2 d) l))
  where
    go : (r : ℕ) → q % 2 ≡ r → (0 < q / 2 → bit (q / 2 - 1) (count_trailing_zeros d (q / 2)) ≡ 0) → bit (q - 1) (under r (count_trailing_zeros d (q / 2))) ≡ 0
    go zero e ih =
        let half : (q - 1) / 2 ≡ q / 2 - 1 = omega arith in
        bit-suc (q - 1) (count_trailing_zeros d (q / 2)) ∙ ap (λ (x : ℕ). bit x (count_trailing_zeros d (q / 2))) half ∙ ih (omega arith)
    go (suc r) e ih = bit-zero (q - 1) ∙ omega arith

module _ (w : ℕ) (h : w < 2 ^ 64) (p : 0 < w) where
  abbrev low : ℕ
  low = count_trailing_zeros 64 w

  -- without the lowest bit
  cleared-above : (j : ℕ) → low < j → bit (bit_and w (w - 1)) j ≡ bit w j
  cleared-above j l = bit-and w (w - 1) j ∙ omega (arith, pred-above 64 w j p h l)

  cleared-upto : (j : ℕ) → j ≤ low → bit (bit_and w (w - 1)) j ≡ 0
  cleared-upto j l =
      bit-and w (w - 1) j ∙ ⊎_elim (λ m. omega (arith, tz-below 64 w j m)) (λ m. let e : j ≡ low =
      omega arith in rw e (omega (arith, pred-at 64 w p h))) (lt-or-le j low)

  cleared-lt : bit_and w (w - 1) < 2 ^ 64
  cleared-lt = lt_of_le_of_lt (and_le_l w (w - 1)) h

  pub cleared-next : 0 < bit_and w (w - 1) → low < count_trailing_zeros 64 (bit_and w (w - 1))
  cleared-next q =
      ⊎_elim (λ l. l) (λ l. absurd (omega (arith, cleared-upto (count_trailing_zeros 64 (bit_and w (w - 1))) l, (tz-pos (bit_and w (w - 1)) cleared-lt q).0)))
      (lt-or-le low (count_trailing_zeros 64 (bit_and w (w - 1))))

tz-most : (d q : ℕ) → count_trailing_zeros d q ≤ d
unfolding count_trailing_zeros
tz-most zero q = omega arith
tz-most (suc d) q = go (q % 2) (tz-most d (q / 2))
  where
    go : (r : ℕ) → count_trailing_zeros d (q / 2) ≤ d → under r (count_trailing_zeros d (q / 2)) ≤ suc d
    go zero h = omega arith
    go (suc r) h = omega arith

pub bit-past : (ws : List ℕ) (g : ℕ) → length ws * 64 ≤ g → bit_of ws g ≡ 0
unfolding bit_of
bit-past ws g h = ap (λ (q : ℕ). bit q (g % 64)) (get_or-eq_default ws 0 (omega arith)) ∙ bit-none (g % 64)

-- ---- what is left
pub left-below : (s : Occupied) (g : ℕ) → g < s.base → left s g ≡ 0
unfolding left
left-below s g h = rw (lt-ltb g s.base h) refl

pub left-word : (s : Occupied) (b : ℕ) → b < 64 → left s (s.base + b) ≡ bit s.rest b
unfolding left bit_of
left-word s b h =
    let n : s.base ≤ s.base + b = omega arith in
    let d : s.base + b - s.base ≡ b = omega arith in
    let q : b / 64 ≡ 0 = omega arith in
    let r : b % 64 ≡ b = omega arith in
    rw (le-ltb (s.base + b) s.base n, d, q, r) refl

pub left-after : (s : Occupied) (h : ℕ) → left s (s.base + 64 + h) ≡ bit_of s.words.now h
unfolding left bit_of
left-after s h =
    let n : s.base ≤ s.base + 64 + h = omega arith in
    let q : (s.base + 64 + h - s.base) / 64 ≡ suc (h / 64) = omega arith in
    let r : (s.base + 64 + h - s.base) % 64 ≡ h % 64 = omega arith in
    rw (le-ltb (s.base + 64 + h) s.base n, q, r) refl

-- a guide is below the word at hand, in it, or after it
parts : (s : Occupied) (P : ℕ → Type 0) → ((g : ℕ) → g < s.base → P g) → ((b : ℕ) → b < 64 → P (s.base + b)) → ((h : ℕ) → P (s.base + 64 + h)) →
    (g : ℕ) → P g
parts s P low word high g =
    ⊎_elim (low g)
    (λ l. ⊎_elim (λ m. let e : s.base + (g - s.base) ≡ g = omega arith in subst P e (word (g - s.base) (omega arith)))
    (λ m. let e : s.base + 64 + (g - (s.base + 64)) ≡ g = omega arith in subst P e (high (g - (s.base + 64)))) (lt-or-le g (s.base + 64)))
    (lt-or-le g s.base)

pub place-some : (s : Occupied) → (s.rest ≡ 0 → ⊥) → place_of s ≡ s.base + count_trailing_zeros 64 s.rest
unfolding place_of
place-some s n = rw (ne_eqb s.rest 0 n) refl

pub place_none : (s : Occupied) → s.rest ≡ 0 → place_of s ≡ s.base + 64
unfolding place_of
place_none s e = rw (eq-eqb s.rest 0 e) refl

-- nothing is left below the place
pub left-low : (s : Occupied) (g : ℕ) → g < place_of s → left s g ≡ 0
left-low s g h =
    parts s (λ (q : ℕ). q < place_of s → left s q ≡ 0) (λ q l u. left-below s q l)
    (λ b l u. left-word s b l ∙ ⊎_elim (λ e. ap (λ (q : ℕ). bit q b) e ∙ bit-none b)
    (λ n. tz-below 64 s.rest b (omega (arith, place-some s n))) (eq-or-ne s.rest 0))
    (λ q u. absurd (⊎_elim (λ e. omega (arith, place_none s e)) (λ n. omega (arith, place-some s n, tz-most 64 s.rest)) (eq-or-ne s.rest 0))) g h

-- the first word of a list, its others being the rest of it
pub left-list : (s : Occupied) (ws : List ℕ) → s.base ≡ 0 → ws ≡ s.rest ∷ s.words.now → (g : ℕ) → left s g ≡ bit_of ws g
unfolding left
left-list s ws z e g =
    let n : s.base ≤ g = omega arith in
    let d : g - s.base ≡ g = omega arith in
    rw (le-ltb g s.base n, d, e) refl

pub left-none : (s : Occupied) → s.rest ≡ 0 → length s.words.now ≡ 0 → (g : ℕ) → left s g ≡ 0
left-none s z e =
    parts s (λ (g : ℕ). left s g ≡ 0) (left-below s) (λ b h. left-word s b h ∙ ap (λ (q : ℕ). bit q b) z ∙ bit-none b)
    (λ h. left-after s h ∙ bit-past s.words.now h (omega arith))

-- ---- the next word
module _ (s : Occupied) (sc : Scans s) (z : s.rest ≡ 0) (t : Occupied) (b : t.base ≡ s.base + 64) (w : s.words.now ≡ t.rest ∷ t.words.now)
    (fit : t.rest < 2 ^ 64) where
  pub loaded-scans : Scans t
  loaded-scans = record { few = omega (arith, sc.few, ap (length {A = ℕ}) w); fits = fit }

  at-word : (h : ℕ) → left t (s.base + 64 + h) ≡ bit_of s.words.now h
  unfolding left
  at-word h =
      let n : t.base ≤ s.base + 64 + h = omega arith in
      let d : s.base + 64 + h - t.base ≡ h = omega arith in
      rw (le-ltb (s.base + 64 + h) t.base n, d, w) refl

  pub loaded-left : (g : ℕ) → left t g ≡ left s g
  loaded-left =
      parts s (λ (g : ℕ). left t g ≡ left s g) (λ g h. left-below t g (omega arith) ∙ sym (left-below s g h))
      (λ d h. left-below t (s.base + d) (omega arith) ∙ sym (left-word s d h ∙ ap (λ (q : ℕ). bit q d) z ∙ bit-none d))
      (λ h. at-word h ∙ sym (left-after s h))

  pub loaded-up : place_of s ≤ place_of t
  loaded-up =
      ⊎_elim (λ e. omega (arith, place_none s z, place_none t e)) (λ n. omega (arith, place_none s z, place-some t n)) (eq-or-ne t.rest 0)

-- ---- the next guide
module _ (s : Occupied) (sc : Scans s) (n : s.rest ≡ 0 → ⊥) where
  abbrev pub taken : Occupied
  taken = record s { rest = bit_and s.rest (s.rest - 1) }

  rest-pos : 0 < s.rest
  rest-pos = pos_of_ne-zero n

  abbrev bit-at : ℕ
  bit-at = count_trailing_zeros 64 s.rest

  at : place_of s ≡ s.base + bit-at
  at = place-some s n

  tz : (bit s.rest bit-at ≡ 1) × (bit-at < 64)
  tz = tz-pos s.rest sc.fits rest-pos

  pub place-inside : place_of s < 256
  place-inside = omega (arith, at, tz.1, sc.few)

  pub taken-scans : Scans taken
  taken-scans = record { few = sc.few; fits = lt_of_le_of_lt (and_le_l s.rest (s.rest - 1)) sc.fits }

  pub taken-up : place_of s < place_of taken
  taken-up =
      ⊎_elim (λ e. omega (arith, at, tz.1, place_none taken e))
      (λ u. omega (arith, at, place-some taken u, cleared-next s.rest sc.fits rest-pos (pos_of_ne-zero u)))
      (eq-or-ne (bit_and s.rest (s.rest - 1)) 0)

  others : (g : ℕ) → place_of s < g → left taken g ≡ left s g
  others =
      parts s (λ (g : ℕ). place_of s < g → left taken g ≡ left s g) (λ g h l. absurd (omega (arith, at)))
      (λ b h l. left-word taken b h ∙ cleared-above s.rest sc.fits rest-pos b (omega (arith, at)) ∙ sym (left-word s b h))
      (λ h l. left-after taken h ∙ sym (left-after s h))

  pub taken-next : (s₀ : Occupied) → ((g : ℕ) → left s g ≡ left s₀ g) → place_of s₀ ≤ place_of s → IsNext s₀ (place_of s) taken
  taken-next s₀ same l = record {
    here = sym (same (place_of s)) ∙ ap (left s) at ∙ left-word s bit-at tz.1 ∙ tz.0;
    before = λ h u. sym (same h) ∙ left-low s h u;
    upto = λ h u. left-low taken h (omega (arith, taken-up));
    others = λ h u. others h u ∙ same h;
    inside = place-inside;
    from = l;
    after = taken-up;
  }

-- ---- sums that pass over zeros
pub sum-run : (F : ℕ → ℕ) (a n : ℕ) → ((h : ℕ) → a ≤ h → h < a + n → F h ≡ 0) → sum F 0 (a + n) ≡ sum F 0 a
unfolding fold
sum-run F a zero z = rw (add-zero a)
sum-run F a (suc n) z =
    rw (add-suc a n) (omega (arith, sum-run F a n (λ h l u. z h l (omega arith)), ap F (zero-add (a + n)), z (a + n) (omega arith) (omega arith)))

pub sum-skip : (F : ℕ → ℕ) (a r : ℕ) → a ≤ r → ((h : ℕ) → a ≤ h → h < r → F h ≡ 0) → sum F 0 r ≡ sum F 0 a
sum-skip F a r l z = let e : a + (r - a) ≡ r =
    omega arith in subst (λ (n : ℕ). sum F 0 n ≡ sum F 0 a) e (sum-run F a (r - a) (λ h x y. z h x (omega arith)))

pub sum-upto : (F : ℕ → ℕ) (a n : ℕ) → a ≤ n → sum F 0 a ≤ sum F 0 n
sum-upto F a n h = let e : a + (n - a) ≡ n = omega arith in subst (λ (q : ℕ). sum F 0 a ≤ sum F 0 q) e (go (n - a))
  where
    go : (k : ℕ) → sum F 0 a ≤ sum F 0 (a + k)
    go zero = rw (add-zero a) (omega arith)
    go (suc k) = rw (add-suc a k) (omega (arith, go k, sum-suc F (a + k)))

-- ---- a level
module _ {m i : ℕ} {cs ws : List ℕ} (ok : Marked m i cs ws) where
  abbrev pub own : List ℕ
  own = words_of m i ws

  own-long : length own ≡ words_per m
  own-long = simp (length-take {A = ℕ}, length-drop {A = ℕ}) (omega (arith, ok.words))

  own-bit : (g : ℕ) → g < words_per m * 64 → bit_of own g ≡ min 1 (count_in m cs i g)
  unfolding bit_of
  own-bit g h =
      let l : g / 64 < (i * words_per m + words_per m) - i * words_per m = omega arith in
      ap (λ (w : ℕ). bit w (g % 64))
      (get_or-take {A = ℕ} ((i * words_per m + words_per m) - i * words_per m) (drop (i * words_per m) ws) (g / 64) 0 l ∙ get_or-drop {A = ℕ} (i * words_per m) ws (g / 64) 0)
      ∙ ok.marks g h

  -- a scan of the level, from its place on
  abbrev pub Along : Occupied → Type 0
  Along s = (h : ℕ) → place_of s ≤ h → left s h ≡ bit_of own h

  pub empty : (g : ℕ) → g < m → bit_of own g ≡ 0 → get_or cs (cell_at m i g) 0 ≡ 0
  empty g h e = omega (arith, own-bit g (omega arith), count-in m i g cs h, e)

  -- the next one is one of the m, and between two places nothing is there
  module _ {s t : Occupied} {g : ℕ} (a : Along s) (n : IsNext s g t) where
    set-here : bit_of own g ≡ 1
    set-here = sym (a g n.from) ∙ n.here

    pub next-low : g < m
    next-low =
        ⊎_elim (λ l. l)
        (λ l. absurd (⊎_elim (λ u. omega (arith, set-here, own-bit g u, count-out m i g cs l))
        (λ u. omega (arith, set-here, bit-past own g (omega (arith, own-long)))) (lt-or-le g (words_per m * 64))))
        (lt-or-le g m)

    pub next-along : Along t
    next-along h u = n.others h (omega (arith, n.after)) ∙ a h (omega (arith, n.from, n.after))

    pub gap-before : (h : ℕ) → place_of s ≤ h → h < g → get_or cs (cell_at m i h) 0 ≡ 0
    gap-before h u v = empty h (omega (arith, next-low)) (sym (a h u) ∙ n.before h v)

    pub gap-after : (h : ℕ) → g < h → h < min (place_of t) m → get_or cs (cell_at m i h) 0 ≡ 0
    gap-after h u v = empty h (omega arith) (sym (a h (omega (arith, n.from))) ∙ sym (n.others h u) ∙ left-low t h (omega arith))

  pub gap-first : (s : Occupied) → ((g : ℕ) → left s g ≡ bit_of own g) → (h : ℕ) → h < min (place_of s) m → get_or cs (cell_at m i h) 0 ≡ 0
  gap-first s all h u = empty h (omega arith) (sym (all h) ∙ left-low s h (omega arith))

  pub gap-last : (s : Occupied) → Along s → ((g : ℕ) → left s g ≡ 0) → (h : ℕ) → place_of s ≤ h → h < m → get_or cs (cell_at m i h) 0 ≡ 0
  gap-last s a none h u v = empty h v (sym (a h u) ∙ none h)

  module _ (T : ℕ → ℕ) (zeros : (f : ℕ) → get_or cs (cell_at m i f) 0 ≡ 0 → T f ≡ 0) where
    pub walk-start : (s : Occupied) → ((g : ℕ) → left s g ≡ bit_of own g) → 0 ≡ sum T 0 (min (place_of s) m)
    walk-start s all = sym (sum-skip T 0 (min (place_of s) m) (omega arith) (λ h u v. zeros h (gap-first s all h v)) ∙ sum-none T)

    pub walk-again : {s t : Occupied} {g : ℕ} (x y : ℕ) → Along s → IsNext s g t → x ≡ sum T 0 (min (place_of s) m) → y ≡ x + T g →
        y ≡ sum T 0 (min (place_of t) m)
    walk-again {s} {t} {g} x y a n e d =
        let l : g < m = next-low a n in
        let skip : sum T 0 g ≡ sum T 0 (min (place_of s) m) =
        sum-skip T (min (place_of s) m) g (omega (arith, n.from)) (λ h u v. zeros h (gap-before a n h (omega arith) v)) in
        sym
        (sum-skip T (g + 1) (min (place_of t) m) (omega (arith, n.after)) (λ q u v. zeros q (gap-after a n q (omega arith) v))
        ∙ ap (λ (q : ℕ). sum T 0 q) (add-one g) ∙ sum-suc T g ∙ ap (λ (q : ℕ). q + T g) (skip ∙ sym e) ∙ sym d)

    pub walk-done : (s : Occupied) (x : ℕ) → Along s → ((g : ℕ) → left s g ≡ 0) → x ≡ sum T 0 (min (place_of s) m) → x ≡ sum T 0 m
    walk-done s x a none e =
        e ∙ sym (sum-skip T (min (place_of s) m) m (omega arith) (λ h u v. zeros h (gap-last s a none h (omega arith) v)))

  pub first-low : i * words_per m ≤ 4092
  first-low =
      let u : i ≤ 1023 = omega (arith, ok.level) in
      let v : words_per m ≤ 4 = omega (arith, ok.guides) in
      mul-le-mul {n₂ = 1023} u v

  pub base-low : i * m ≤ 261888
  base-low = let u : i ≤ 1023 = omega (arith, ok.level) in mul-le-mul {n₂ = 1023} u ok.guides

  -- what is below a level's sum
  cells-mono : (n : ℕ) → n ≤ m → sum (λ f. get_or cs (cell_at m i f) 0) 0 n ≤ 961
  unfolding cell_sum
  cells-mono n h = le_trans (sum-upto (λ f. get_or cs (cell_at m i f) 0) n m h) ok.few

  pub cell-low : (f : ℕ) → f < m → get_or cs (cell_at m i f) 0 ≤ 961
  cell-low f h = omega (arith, sum-suc (λ f. get_or cs (cell_at m i f) 0) f, cells-mono (suc f) (omega arith))

  module _ {row : List ℕ} (rw' : RowFits m row) where
    abbrev pub term : ℕ → ℕ
    term f = get_or cs (cell_at m i f) 0 * get_or row f 0

    pub term-zero : (f : ℕ) → get_or cs (cell_at m i f) 0 ≡ 0 → term f ≡ 0
    term-zero f e = rw e (zero-mul _)

    term-low : (f : ℕ) → f < m → term f ≤ get_or cs (cell_at m i f) 0 * 65535
    term-low f h = mul-le-mul {n₂ = get_or cs (cell_at m i f) 0} (le_refl _) (le_trans (rw'.low f h) (omega arith))

    pub dot-low : (n : ℕ) → n ≤ m → sum term 0 n ≤ sum (λ f. get_or cs (cell_at m i f) 0) 0 n * 65535
    dot-low zero h = omega (arith, sum-none term)
    dot-low (suc n) h = omega (arith, sum-suc term n, sum-suc (λ f. get_or cs (cell_at m i f) 0) n, dot-low n (omega arith), term-low n (omega arith))

    -- the sum as far as the scan has come
    pub sofar-low : (n y : ℕ) → y ≡ cell_dot m i cs row (min n m) → y ≤ 62979135
    unfolding cell_dot
    sofar-low n y e = omega (arith, dot-low (min n m) (omega arith), cells-mono (min n m) (omega arith))

    pub dot-start : (s : Occupied) → ((g : ℕ) → left s g ≡ bit_of own g) → 0 ≡ cell_dot m i cs row (min (place_of s) m)
    unfolding cell_dot
    dot-start s all = walk-start term term-zero s all

    pub dot-again : {s t : Occupied} {g : ℕ} (x y : ℕ) → Along s → IsNext s g t → x ≡ cell_dot m i cs row (min (place_of s) m)
        → y ≡ x + term g → y ≡ cell_dot m i cs row (min (place_of t) m)
    unfolding cell_dot
    dot-again x y a n e d = walk-again term term-zero x y a n e d

    pub dot-done : (s : Occupied) (x : ℕ) → Along s → ((g : ℕ) → left s g ≡ 0) → x ≡ cell_dot m i cs row (min (place_of s) m)
        → x ≡ cell_dot m i cs row m
    unfolding cell_dot
    dot-done s x a none e = walk-done term term-zero s x a none e

    -- a turn
    pub turn : (g : ℕ) → g < m
        →
        (i * m + g < length cs) × (i * m + g ≤ 262144) × (g < length row) × (get_or cs (i * m + g) 0 ≤ 961) ×
        (get_or row g 0 ≤ 65535) × (get_or cs (i * m + g) 0 * get_or row g 0 ≤ 62979135)
    turn g h = (
      omega (arith, ok.cells),
      omega (arith, base-low, ok.guides),
      omega (arith, rw'.inside),
      cell-low g h,
      le_trans (rw'.low g h) (omega arith),
      omega (arith, term-low g h, cell-low g h),
    )
