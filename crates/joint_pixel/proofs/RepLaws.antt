-- One pixel more or less keeps the joint counts' meaning. Assumes nothing.
use mathlib.Core.Path.{◌≡◌, refl, sym, ap, ap₂, ◌∙◌}
use mathlib.Core.Logic.{◌⊎◌, inl, inr, ⊎_elim}
use mathlib.Core.Bool.{Bool, true, false}
use mathlib.Core.List.{List}
use Prim.Native.Nat.{ℕ, ◌+◌, ◌-◌, ◌*◌, ◌/◌, ◌%◌, ◌≤◌, ◌<◌, min}
use native.Mathlib.Omega.{arith}
use lib.Arith.{digits_div, digits_mod}
use lib.ListN.{length, get_or, set}
use lib.Seq.{get_or-set_same, get_or-set_other}
use borrow.Author.Tests.{eq-eqb, ne_eqb, lt-ltb, le-ltb}
use Rattle.ints.specs.Order.{eq-or-ne}
use Rattle.joint_pixel.specs.Bit.{bit, with_bit, without_bit}
use Rattle.pixels.specs.Additive.{changed}
use Rattle.pixels.proofs.AdditiveLaws.{changed-none}
use Rattle.joint_pixel.specs.Store.{cell_at, word_at, words_per, count_in, changed_word, changed_counts, changed_words, hit, Rep}
use Rattle.joint_pixel.proofs.BitLaws.{set_here, set_other, clear-here, clear-other}

-- ---- two places: the same, or not
abbrev pub Apart : ℕ → ℕ → ℕ → ℕ → Type 0
Apart i f i' f' = i' ≡ i → f' ≡ f → ⊥

pub same_or : (i f i' f' : ℕ) → ((i' ≡ i) × (f' ≡ f)) ⊎ Apart i f i' f'
same_or i f i' f' =
    ⊎_elim (λ e. ⊎_elim (λ d. inl (e, d)) (λ n. inr (λ p q. n q)) (eq-or-ne f' f)) (λ n. inr (λ p q. n p)) (eq-or-ne i' i)

pub hit_same : (i f : ℕ) → hit i f i f ≡ 1
unfolding hit
hit_same i f = rw (eq-eqb i i refl, eq-eqb f f refl)

pub hit-apart : (i f i' f' : ℕ) → Apart i f i' f' → hit i f i' f' ≡ 0
unfolding hit
hit-apart i f i' f' n =
    ⊎_elim (λ e. rw (eq-eqb i i' e, ne_eqb f f' (λ d. n (sym e) (sym d)))) (λ h. rw (ne_eqb i i' h)) (eq-or-ne i i')

-- ---- the indices

-- row i, column f of rows of m
pub row-inj : (m i f i' f' : ℕ) → f < m → f' < m → i' * m + f' ≡ i * m + f → (i' ≡ i) × (f' ≡ f)
row-inj m i f i' f' h h' e = (
  sym (digits_div i' h') ∙ ap (λ (x : ℕ). x / m) e ∙ digits_div i h,
  sym (digits_mod i' h') ∙ ap (λ (x : ℕ). x % m) e ∙ digits_mod i h,
)

-- ---- a store in a list of rows, read at another place
pub cell-store : (m i f i' f' v : ℕ) (xs : List ℕ) → f < m → f' < m → Apart i f i' f' →
    get_or (set xs (cell_at m i f) v) (cell_at m i' f') 0 ≡ get_or xs (cell_at m i' f') 0
cell-store m i f i' f' v xs h h' n =
    get_or-set_other xs (cell_at m i f) (cell_at m i' f') v 0 (λ e. let r = row-inj m i f i' f' h h' e in n r.0 r.1)

-- a word's store, whose bits other than that of f are the old ones, read at another guide's bit
pub mark-store : (m i f i' g v : ℕ) (ws : List ℕ) → word_at m i f < length ws → f < words_per m * 64 → g < words_per m * 64
    → ((j : ℕ) → j < 64 → (j ≡ f % 64 → ⊥) → bit v j ≡ bit (get_or ws (word_at m i f) 0) j)
    → Apart i f i' g → bit (get_or (set ws (word_at m i f) v) (word_at m i' g) 0) (g % 64) ≡ bit (get_or ws (word_at m i' g) 0) (g % 64)
mark-store m i f i' g v ws inside hf hg old n = ⊎_elim same other (eq-or-ne (word_at m i' g) (word_at m i f))
  where
    same : word_at m i' g ≡ word_at m i f → bit (get_or (set ws (word_at m i f) v) (word_at m i' g) 0) (g % 64) ≡ bit (get_or ws (word_at m i' g) 0) (g % 64)
    same e =
        let r = row-inj (words_per m) i (f / 64) i' (g / 64) (omega arith) (omega arith) e in
        ap (λ (x : ℕ). bit (get_or (set ws (word_at m i f) v) x 0) (g % 64)) e
        ∙ ap (λ (x : ℕ). bit x (g % 64)) (get_or-set_same ws (word_at m i f) v 0 inside)
        ∙ old (g % 64) (omega arith) (λ d. n r.0 (omega arith))
        ∙ ap (λ (x : ℕ). bit (get_or ws x 0) (g % 64)) (sym e)

    other : (word_at m i' g ≡ word_at m i f → ⊥) →
        bit (get_or (set ws (word_at m i f) v) (word_at m i' g) 0) (g % 64) ≡ bit (get_or ws (word_at m i' g) 0) (g % 64)
    other d = ap (λ (x : ℕ). bit x (g % 64)) (get_or-set_other ws (word_at m i f) (word_at m i' g) v 0 d)

-- ---- a pixel that enters or leaves

-- the two cases, as the code has them
module _ (w : Bool) (m i f : ℕ) (xs ws : List ℕ) where
  pub enters-counts : w ≡ true → changed_counts w m i f xs ≡ set xs (cell_at m i f) (get_or xs (cell_at m i f) 0 + 1)
  unfolding changed_counts changed
  enters-counts e = rw e refl

  pub enters-words : w ≡ true → changed_words w m i f xs ws ≡ set ws (word_at m i f) (with_bit (get_or ws (word_at m i f) 0) (f % 64))
  unfolding changed_words changed_word
  enters-words e = rw e refl

  pub leaves-counts : w ≡ false → changed_counts w m i f xs ≡ set xs (cell_at m i f) (get_or xs (cell_at m i f) 0 - 1)
  unfolding changed_counts changed
  leaves-counts e = rw e refl

  pub leaves-words : w ≡ false →
      changed_words w m i f xs ws ≡ set ws (word_at m i f) (without_bit (get_or ws (word_at m i f) 0) (f % 64) (1 - (get_or xs (cell_at m i f) 0 - 1)))
  unfolding changed_words changed_word
  leaves-words e = rw e refl

word-here : (w : Bool) (word b n : ℕ) → b < 64 → bit word b ≡ min 1 n → bit (changed_word w word b n) b ≡ min 1 (changed w n 1)
unfolding changed_word changed
word-here true word b n h e = set_here word b ∙ omega arith
word-here false word b n h e = clear-here word b (1 - (n - 1)) (omega arith) h ∙ rw e (go n)
  where
    go : (n : ℕ) → min (min 1 n) (1 - (1 - (n - 1))) ≡ min 1 (n - 1)
    go n = omega arith

word-other : (w : Bool) (word b n j : ℕ) → b < 64 → j < 64 → (j ≡ b → ⊥) → bit (changed_word w word b n) j ≡ bit word j
unfolding changed_word
word-other true word b n j h k d = set_other word b j d
word-other false word b n j h k d = clear-other word b (1 - (n - 1)) j (omega arith) h k d

module _ (w : Bool) (l m i f : ℕ) (cnt : ℕ → ℕ → ℕ) (xs ws : List ℕ) (hi : i < l) (hf : f < m) (hx : cell_at m i f < length xs)
    (hw : word_at m i f < length ws) where
  pub rep-changed : Rep l m cnt xs ws →
      Rep l m (λ i' f'. changed w (cnt i' f') (hit i f i' f')) (changed_counts w m i f xs) (changed_words w m i f xs ws)
  unfolding changed_counts changed_words
  rep-changed r = record {
    outside = λ i' g u h. rw (hit-apart i f i' g (λ p q. omega arith)) (changed-none w (cnt i' g) ∙ r.outside i' g u h);
    cells = λ i' f' h k. ⊎_elim (at-cell i' f') (off-cell i' f' h k) (same_or i f i' f');
    marks = λ i' g h k. ⊎_elim (at_mark i' g) (off-mark i' g h k) (same_or i f i' g);
  }
    where
      n : ℕ
      n = get_or xs (cell_at m i f) 0

      v : ℕ
      v = changed_word w (get_or ws (word_at m i f) 0) (f % 64) n

      new : changed w n 1 ≡ changed w (cnt i f) (hit i f i f)
      new = ap₂ (changed w) (r.cells i f hi hf) (sym (hit_same i f))

      at-cell : (i' f' : ℕ) → (i' ≡ i) × (f' ≡ f) →
          get_or (set xs (cell_at m i f) (changed w n 1)) (cell_at m i' f') 0 ≡ changed w (cnt i' f') (hit i f i' f')
      at-cell i' f' e = rw (e.0, e.1) (get_or-set_same xs (cell_at m i f) (changed w n 1) 0 hx ∙ new)

      off-cell : (i' f' : ℕ) → i' < l → f' < m → Apart i f i' f' →
          get_or (set xs (cell_at m i f) (changed w n 1)) (cell_at m i' f') 0 ≡ changed w (cnt i' f') (hit i f i' f')
      off-cell i' f' h k d =
          rw (hit-apart i f i' f' d) (cell-store m i f i' f' (changed w n 1) xs hf k d ∙ r.cells i' f' h k ∙ sym (changed-none w (cnt i' f')))

      at_mark : (i' g : ℕ) → (i' ≡ i) × (g ≡ f) →
          bit (get_or (set ws (word_at m i f) v) (word_at m i' g) 0) (g % 64) ≡ min 1 (changed w (cnt i' g) (hit i f i' g))
      at_mark i' g e =
          rw (e.0, e.1) (ap (λ (x : ℕ). bit x (f % 64)) (get_or-set_same ws (word_at m i f) v 0 hw)
          ∙ word-here w (get_or ws (word_at m i f) 0) (f % 64) n (omega arith) (r.marks i f hi (omega arith) ∙ ap (min 1) (sym (r.cells i f hi hf)))
          ∙ ap (min 1) new)

      off-mark : (i' g : ℕ) → i' < l → g < words_per m * 64 → Apart i f i' g →
          bit (get_or (set ws (word_at m i f) v) (word_at m i' g) 0) (g % 64) ≡ min 1 (changed w (cnt i' g) (hit i f i' g))
      off-mark i' g h k d =
          rw (hit-apart i f i' g d)
          (mark-store m i f i' g v ws hw (omega arith) k (λ j a b. word-other w (get_or ws (word_at m i f) 0) (f % 64) n j (omega arith) a b) d
          ∙ r.marks i' g h k ∙ ap (min 1) (sym (changed-none w (cnt i' g))))

pub rep-eq : (l m : ℕ) (cnt cnt' : ℕ → ℕ → ℕ) (xs ws : List ℕ) → ((i f : ℕ) → i < l → cnt i f ≡ cnt' i f) → Rep l m cnt xs ws → Rep l m cnt' xs ws
rep-eq l m cnt cnt' xs ws e r = record {
  outside = λ i g u h. sym (e i g u) ∙ r.outside i g u h;
  cells = λ i f h k. r.cells i f h k ∙ e i f h;
  marks = λ i g h k. r.marks i g h k ∙ ap (min 1) (e i g h);
}

-- ---- the count of a cell
pub count-in : (m i g : ℕ) (xs : List ℕ) → g < m → count_in m xs i g ≡ get_or xs (cell_at m i g) 0
unfolding count_in
count-in m i g xs h = rw (lt-ltb g m h)

pub count-out : (m i g : ℕ) (xs : List ℕ) → m ≤ g → count_in m xs i g ≡ 0
unfolding count_in
count-out m i g xs h = rw (le-ltb g m h)
