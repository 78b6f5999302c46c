-- Laws of the start: zeros hold no pixel, and the window's columns, one after the other, make the window.
-- Assumes nothing.
use mathlib.Core.Path.{◌≡◌, refl, sym, ap, ◌∙◌}
use mathlib.Core.Bool.{true}
use mathlib.Core.List.{List, ◌++◌}
use Prim.Native.Nat.{ℕ, zero, suc, ◌+◌, ◌-◌, ◌*◌, ◌/◌, ◌%◌, ◌^◌, ◌≤◌, ◌<◌, min}
use native.Mathlib.Nat.{mul-le-mul}
use native.Mathlib.Omega.{arith}
use lib.Arith.{digits_lt}
use lib.Dec.{lit<}
use lib.ListN.{length, get_or, take, drop, replicate, length-append, length-replicate, length-drop, get_or-replicate, get_or-append}
use lib.Seq.{drop_at, length-take-le}
use Rattle.std.specs.Int.{div_ceil}
use lib.IntN.{ℤ, pos, ◌+ℤ◌}
use Rattle.spec.specs.declared.Plan.{Plan}
use Rattle.spec.specs.Frame.{frame_with}
use Rattle.spec.specs.Checks.{Pictured}
use Rattle.spec.specs.Window.{span, count}
use Rattle.spec.proofs.Plans.{pixel-of}
use Rattle.spec.proofs.Levels.{cell}
use Rattle.window.specs.declared.line.Line.{Line}
use Rattle.window.specs.Line.{column_line, InPlanes}
use Rattle.window.proofs.PixelLaws.{plan-limits, guides_high, levels_high}
use Rattle.window.proofs.LineLaws.{column-in, span-high}
use Rattle.joint_pixel.specs.Bit.{bit}
use Rattle.pixels.specs.declared.Pixel.{Pixel}
use Rattle.pixels.specs.Pixels.{count_of, pixel_fold, columns_fold, LinePixels}
use Rattle.pixels.specs.Additive.{changed, changedℤ}
use Rattle.pixels.proofs.AdditiveLaws.{columns-none, columns-more, columns-window}
use Rattle.joint_pixel.specs.Store.{cell_at, word_at, words_per, count_in, hit}
use Rattle.joint_pixel.specs.Side.{side_of}
use Rattle.joint.specs.List.{list_count, box_at, Countable, BoxRoom, RestKept, CountsPassed, BoxPassed}
use Rattle.joint.specs.Window.{JointAt, Fresh, Columns, Filled}
use Rattle.joint_pixel.proofs.BitLaws.{bit_high}
use Rattle.joint_pixel.proofs.RepLaws.{rep-eq, count-in}
use Rattle.joint.proofs.ListLaws.{rep-own, rep-self}
use Rattle.joint.proofs.WindowLaws.{cell-sum, plan-cells, plan-words, joint-of}
use Rattle.joint.proofs.PixelLaws.{list-le, list-abs}

-- ---- zeros
pub wiped : (xs : List ℕ) {ys : List ℕ} (n : ℕ) → n ≤ length xs → ys ≡ replicate (length (take n xs)) 0 → ys ++ drop n xs ≡ replicate n 0 ++ drop n xs
wiped xs n h e = ap (λ (q : List ℕ). q ++ drop n xs) (e ∙ ap (λ (m : ℕ). replicate m 0) (length-take-le n xs h))

pub words-even : (m d : ℕ) → d ≡ div_ceil m 64 → d ≡ words_per m
words-even m d e = omega arith

clear-long : (xs : List ℕ) (k : ℕ) → k ≤ length xs → length (replicate k 0 ++ drop k xs) ≡ length xs
clear-long xs k h = length-append (replicate k 0) (drop k xs) ∙ omega (arith, length-replicate {A = ℕ} k 0, length-drop k xs)

clear_at : (xs : List ℕ) (n k : ℕ) → k < n → get_or (replicate n 0 ++ drop n xs) k 0 ≡ 0
clear_at xs n k h = get_or-append (replicate n 0) (drop n xs) 0 k (rw (length-replicate {A = ℕ} n 0) h) ∙ get_or-replicate n k 0 0 h

clear-rest : (xs : List ℕ) (n : ℕ) → drop n (replicate n 0 ++ drop n xs) ≡ drop n xs
clear-rest xs n = drop_at (replicate n 0) (drop n xs) n (length-replicate n 0)

zero-box : (f : ℕ) → get_or (replicate 256 (pos 0)) f (pos 0) ≡ pos 0
zero-box f = go 256 f
  where
    go : (n f : ℕ) → get_or (replicate n (pos 0)) f (pos 0) ≡ pos 0
    go zero f = refl
    go (suc n) zero = refl
    go (suc n) (suc f) = go n f

-- ---- the columns
module _ {b vs : List ℕ} {z : Plan} (pl : Pictured b vs z) where
  abbrev L : ℕ
  L = z.levels

  abbrev M : ℕ
  M = z.guides

  abbrev K : ℕ
  K = words_per z.guides

  -- after the zeros nothing is held
  pub cleared : (x t c : ℕ) {xs ws xs₁ ws₁ : List ℕ} → L * M ≤ length xs → L * K ≤ length ws → xs₁ ≡ replicate (L * M) 0 ++ drop (L * M) xs →
      ws₁ ≡ replicate (L * K) 0 ++ drop (L * K) ws
      → (Filled b vs z x t c 0 xs₁ ws₁ xs₁ ws₁ (replicate 256 (pos 0))) × RestKept z.levels z.guides xs ws xs₁ ws₁
  cleared x t c {xs} {ws} {xs₁} {ws₁} hx hw ex ew =
      let lx : length xs₁ ≡ length xs = ap length ex ∙ clear-long xs (L * M) hx in
      let lw : length ws₁ ≡ length ws = ap length ew ∙ clear-long ws (L * K) hw in
      let cell0 : (i f : ℕ) → i < L → f < M → get_or xs₁ (cell_at M i f) 0 ≡ 0 =
      λ i f h k. ap (λ (q : List ℕ). get_or q (cell_at M i f) 0) ex ∙ clear_at xs (L * M) (cell_at M i f) (digits_lt h k) in
      let word0 : (i j : ℕ) → i < L → j < K → get_or ws₁ (i * K + j) 0 ≡ 0 =
      λ i j h k. ap (λ (q : List ℕ). get_or q (i * K + j) 0) ew ∙ clear_at ws (L * K) (i * K + j) (digits_lt h k) in (
        record {
          cells = rw lx hx;
          words = rw lw hw;
          kept = record { long = refl; long_words = refl; rest = refl; rest_words = refl };
          held = record {
            outside = λ i g u h. columns-none ◌+◌ 0 b vs z x t (λ v f. hit v f i g);
            cells = λ i f h k. cell0 i f h k ∙ sym (columns-none ◌+◌ 0 b vs z x t (λ v g. hit v g i f));
            marks = λ i g h k. mark i g (word0 i (g / 64) h (omega arith));
          };
          low = λ i f h k. omega (arith, cell0 i f h k);
          box_long = length-replicate 256 (pos 0);
          box_low = λ f. rw (zero-box f) (omega arith);
          box = λ f. zero-box f ∙ sym (columns-none ◌+ℤ◌ (pos 0) b vs z x t (side_of c f));
        },
        record {
          long = lx;
          long_words = lw;
          rest = ap (drop (L * M)) ex ∙ clear-rest xs (L * M);
          rest_words = ap (drop (L * K)) ew ∙ clear-rest ws (L * K);
        },
      )
    where
      mark : (i g : ℕ) → get_or ws₁ (word_at M i g) 0 ≡ 0 →
          bit (get_or ws₁ (word_at M i g) 0) (g % 64) ≡ min 1 (columns_fold ◌+◌ 0 b vs z x t (λ v f. hit v f i g) 0)
      mark i g e = rw (e, columns-none ◌+◌ 0 b vs z x t (λ v f. hit v f i g)) (bit_high 0 0 (g % 64) (lit< tt) (omega arith))

  -- one column more
  module _ {x n t c k : ℕ} {xs ws xs₁ ws₁ : List ℕ} {bx₁ : List ℤ} {d : Line} (co : Columns z x n t) (h : k < n)
      (fl : Filled b vs z x t c k xs ws xs₁ ws₁ bx₁) (ed : d ≡ column_line z (x + k) t) where
    pub column-planes : InPlanes z d
    column-planes = rw ed (column-in (plan-limits pl) (x + k) t (omega (arith, co.wide)))

    module _ {p : List Pixel} (r : LinePixels b vs z d p) where
      unfoldable column-countable : Countable true M p xs₁ ws₁
      column-countable = record {
        levels = L;
        levels_high = levels_high pl;
        guides_high = guides_high pl;
        cells = rw fl.kept.long fl.cells;
        words = rw fl.kept.long_words fl.words;
        held = rep-self _ _ _ xs₁ ws₁ fl.held;
        below = r.below;
        fits = λ i f hi hf. omega (arith, fl.low i f hi hf, list-le p (count_of p) i f, r.below.few, co.few);
      }

      pub fill-asks : Countable true M p xs₁ ws₁ × BoxRoom (count_of p) bx₁
      fill-asks = (column-countable, record { long = fl.box_long; room = λ f. omega (arith, fl.box_low f, r.below.few, co.few) })

      pub fill-again : {xs₂ ws₂ : List ℕ} {bx₂ : List ℤ} →
          ((a : Countable true M p xs₁ ws₁) → CountsPassed true a.levels M p (count_of p) xs₁ ws₁ xs₂ ws₂)
          → BoxPassed true c p (count_of p) bx₁ bx₂ → Filled b vs z x t c (k + 1) xs ws xs₂ ws₂ bx₂
      unfolding changed changedℤ column-countable
      fill-again {xs₂} {ws₂} after u = let g = after column-countable in record {
        cells = fl.cells;
        words = fl.words;
        kept = record {
          long = g.kept.long ∙ fl.kept.long;
          long_words = g.kept.long_words ∙ fl.kept.long_words;
          rest = g.kept.rest ∙ fl.kept.rest;
          rest_words = g.kept.rest_words ∙ fl.kept.rest_words;
        };
        held = rep-eq _ _ _ _ xs₂ ws₂ (λ i f l. more i f l) g.held;
        low =
            λ i f hi hf. omega (arith, g.held.cells i f hi hf, count-in M i f xs₁ hf, list-le p (count_of p) i f, fl.low i f hi hf, r.below.few);
        box_long = u.long ∙ fl.box_long;
        box_low = λ f. rw (u.passed.cells f) (omega (arith, list-abs true c p (count_of p) f (box_at bx₁ f), fl.box_low f, r.below.few));
        box = λ f.
            u.passed.cells f ∙ ap (λ (y : ℤ). y +ℤ pixel_fold ◌+ℤ◌ (pos 0) p (side_of c f)) (fl.box f)
            ∙ sym (columns-more ◌+ℤ◌ (pos 0) b vs z x t (side_of c f) k p ed (r.sumℤ (side_of c f)));
      }
        where
          more : (i f : ℕ) → i < L → count_in M xs₁ i f + list_count p (count_of p) i f ≡ columns_fold ◌+◌ 0 b vs z x t (λ v g. hit v g i f) (k + 1)
          more i f l =
              ap (λ (y : ℕ). y + list_count p (count_of p) i f) (sym (rep-own _ _ _ xs₁ ws₁ fl.held i f l))
              ∙ sym (columns-more ◌+◌ 0 b vs z x t (λ v g. hit v g i f) k p ed (r.sum (λ v g. hit v g i f)))

  -- all columns are the window
  module _ (s t : ℕ) {x n : ℕ} (ex : x ≡ s - z.radius) (en : n ≡ span z.radius s z.width) where
    window-count : (i f : ℕ) → columns_fold ◌+◌ 0 b vs z x t (λ v g. hit v g i f) n ≡ count (frame_with b vs) s t i f
    unfolding count hit
    window-count i f = columns-window ◌+◌ 0 b vs z x t (λ v g. hit v g i f) pl s ex en

    window-cell : (c f : ℕ) → columns_fold ◌+ℤ◌ (pos 0) b vs z x t (side_of c f) n ≡ cell (frame_with b vs) s t c f
    window-cell c f = columns-window ◌+ℤ◌ (pos 0) b vs z x t (side_of c f) pl s ex en ∙ sym (cell-sum (frame_with b vs) s t c f)

  pub cells-small : L * M ≤ 262144
  cells-small = mul-le-mul {n₂ = 1024} (levels_high pl) (guides_high pl)

  pub words_small : L * K ≤ 4096
  words_small =
      let m : K ≤ 4 = omega (arith, guides_high pl) in
      mul-le-mul {n₂ = 1024} (levels_high pl) m

-- ---- the whole start
columns-wide : (r s w : ℕ) → s < w → s - r + span r s w ≤ w
unfolding span
columns-wide r s w k = omega arith

module _ {b vs : List ℕ} {z : Plan} {s t c x n : ℕ} {xs ws xs₁ ws₁ : List ℕ} (fr : Fresh b vs z s t xs ws)
    (ex : xs₁ ≡ replicate (z.levels * z.guides) 0 ++ drop (z.levels * z.guides) xs)
    (ew : ws₁ ≡ replicate (z.levels * words_per z.guides) 0 ++ drop (z.levels * words_per z.guides) ws)
    (e : x ≡ s - z.radius) (d : n ≡ span z.radius s z.width) where
  zeros : (Filled b vs z x t c 0 xs₁ ws₁ xs₁ ws₁ (replicate 256 (pos 0))) × RestKept z.levels z.guides xs ws xs₁ ws₁
  zeros = cleared fr.pictured x t c (rw (plan-cells fr.pictured) fr.cells) (rw (plan-words fr.pictured) fr.words) ex ew

  pub build-asks : (Pictured b vs z × Columns z x n t) × Filled b vs z x t c 0 xs₁ ws₁ xs₁ ws₁ (replicate 256 (pos 0))
  build-asks =
      let few = span-high z.radius s z.width (plan-limits fr.pictured).radius in
      ((fr.pictured, record { wide = rw (e, d) (columns-wide z.radius s z.width fr.column); few = rw d few; row = fr.row }), zeros.0)

  pub built : {xs₂ ws₂ : List ℕ} {bx₂ : List ℤ} → ((k : ℕ) → get_or ws₂ k 0 < 2 ^ 64) → Filled b vs z x t c n xs₁ ws₁ xs₂ ws₂ bx₂ →
      JointAt (frame_with b vs) s t c xs ws xs₂ ws₂ bx₂
  built {xs₂} {ws₂} fit fl =
      let kp = zeros.1 in
      joint-of fr.pictured (pixel-of fr.pictured fr.column fr.row)
      (record {
        long = fl.kept.long ∙ kp.long;
        long_words = fl.kept.long_words ∙ kp.long_words;
        rest = fl.kept.rest ∙ kp.rest;
        rest_words = fl.kept.rest_words ∙ kp.rest_words;
      })
      fr.cells fr.words
      (rep-eq _ _ _ (count (frame_with b vs) s t) xs₂ ws₂ (λ i f u. window-count fr.pictured s t e d i f) fl.held) fit
      fl.box_long (λ f h. fl.box f ∙ window-cell fr.pictured s t e d c f)
