-- Lists of pixels in the joint stores and the box: what a turn of the loop asks, and what it gives.
-- Assumes nothing.
use mathlib.Core.Path.{◌≡◌, refl, sym, ap, ◌∙◌, subst}
use mathlib.Core.Logic.{⊎_elim}
use mathlib.Core.Bool.{Bool, true, false, ◌&&◌}
use mathlib.Core.List.{List}
use Prim.Native.Nat.{ℕ, suc, ◌+◌, ◌-◌, ◌*◌, ◌/◌, ◌^◌, ◌≤◌, ◌<◌}
use native.Mathlib.Nat.{lt_of_lt_of_le}
use native.Mathlib.Numerals.{add-one}
use native.Mathlib.Omega.{arith}
use lib.Arith.{digits_lt}
use lib.ListN.{length, get_or, set, length-set}
use lib.Seq.{get_or-set_same, get_or-set_other, drop-set-lt}
use lib.Dec.{eqb}
use lib.IntN.{ℤ, pos, nat_abs, ◌+ℤ◌}
use Rattle.ints.specs.Order.{eq-or-ne}
use Rattle.spec.specs.declared.Plan.{Plan}
use Rattle.spec.specs.Base.{indicator}
use Rattle.spec.specs.Frame.{frame_with}
use Rattle.spec.specs.Window.{count}
use Rattle.spec.proofs.Plans.{pixel-of}
use Rattle.spec.proofs.Levels.{cell, box-cell}
use Rattle.spec.proofs.Bounds.{count_high}
use Rattle.window.specs.declared.line.Step.{Step}
use Rattle.window.specs.Line.{Adjacent, step_of}
use Rattle.window.proofs.PixelLaws.{guides_high, levels_high}
use Rattle.window.proofs.FormLaws.{both-in}
use Rattle.pixels.specs.declared.Pixel.{Pixel}
use Rattle.pixels.specs.Pixels.{count_of, level_in, guide_in, pixel_fold_to, pixel_fold, LinePixels}
use Rattle.pixels.specs.Additive.{changed, changedℤ, Fits}
use Rattle.pixels.proofs.AdditiveLaws.{
  changed-none,
  changed-next,
  changed-noneℤ,
  changed-abs,
  fits_next,
  pixels-none,
  pixels-next,
  upto,
  high,
  high-abs,
  integers,
  passed_none,
  passed-next,
  exchangedℤ,
  stepped,
  slid,
}
use Rattle.joint_pixel.specs.Store.{cell_at, word_at, words_per, Place, changed_counts, changed_words, count_in, hit}
use Rattle.joint_pixel.specs.Side.{side, side_of}
use Rattle.joint.specs.List.{list_count, box_at, Countable, BoxRoom, CountsPassed, BoxPassed, Exchangeable, CountsExchanged, BoxExchanged}
use Rattle.joint.specs.Window.{JointAt, Held}
use Rattle.joint_pixel.proofs.RepLaws.{hit_same, rep-changed, rep-eq, count-in}
use Rattle.joint.proofs.ListLaws.{rep-own, rep-self}
use Rattle.joint.proofs.WindowLaws.{
  cell-sum,
  plan-cells,
  plan-words,
  joint-of,
  held-pixel,
  held-rep,
  held-cells,
  held-words,
  held_low,
  held-long,
}
use Rattle.joint_pixel.proofs.SideLaws.{side-here, side-away, side-abs}

-- ---- places
cell_in : (l m i f : ℕ) (xs : List ℕ) → l * m ≤ length xs → i < l → f < m → cell_at m i f < length xs
cell_in l m i f xs h u v = lt_of_lt_of_le (digits_lt u v) h

word_in : (l m i f : ℕ) (ws : List ℕ) → l * words_per m ≤ length ws → i < l → f < m → word_at m i f < length ws
word_in l m i f ws h u v = let k : f / 64 < words_per m = omega arith in lt_of_lt_of_le (digits_lt u k) h

-- ---- the counts
module _ {w : Bool} {m : ℕ} {p : List Pixel} {xs ws : List ℕ} (a : Countable w m p xs ws) where
  abbrev L : ℕ
  L = a.levels

  pub counts-none : CountsPassed w a.levels m p 0 xs ws xs ws
  counts-none = record {
    kept = record { long = refl; long_words = refl; rest = refl; rest_words = refl };
    held =
        rep-eq L m (count_in m xs) _ xs ws
        (λ i f h. sym (ap (changed w (count_in m xs i f)) (pixels-none ◌+◌ 0 p (λ v g. hit v g i f)) ∙ changed-none w (count_in m xs i f))) a.held;
  }

  module _ {k : ℕ} (h : k < count_of p) {xs₁ ws₁ : List ℕ} (g : CountsPassed w a.levels m p k xs ws xs₁ ws₁) where
    abbrev i : ℕ
    i = level_in p k

    abbrev f : ℕ
    f = guide_in p k

    hi : i < L
    hi = a.below.level k h

    hf : f < m
    hf = a.below.guide k h

    hx : cell_at m i f < length xs₁
    hx = rw g.kept.long (cell_in L m i f xs a.cells hi hf)

    hw : word_at m i f < length ws₁
    hw = rw g.kept.long_words (word_in L m i f ws a.words hi hf)

    one_more : (i' f' : ℕ) → list_count p (suc k) i' f' ≡ list_count p k i' f' + hit i f i' f'
    one_more i' f' = pixels-next ◌+◌ 0 p (λ v g. hit v g i' f') k

    -- what the turn asks
    pub place_of : Place m (level_in p k) (guide_in p k) xs₁ ws₁
    place_of = record { guides = a.guides_high; level = omega (arith, hi, a.levels_high); guide = hf; cell = hx; word = hw }

    pub takes : Fits 65536 w (get_or xs₁ (cell_at m (level_in p k) (guide_in p k)) 0) 1
    takes =
        subst (λ (q : ℕ). Fits 65536 w q 1) (sym (g.held.cells i f hi hf ∙ ap (λ (q : ℕ). changed w q (list_count p k i f)) (count-in m i f xs hf)))
        (fits_next 65536 w (get_or xs (cell_at m i f) 0) (list_count p k i f) 1 (list_count p (count_of p) i f) (a.fits i f hi hf)
        (omega (arith, one_more i f, hit_same i f, upto p (λ v g. hit v g i f) (suc k) (count_of p) (omega arith))))

    -- what it gives
    pub counts-next : {xs₂ ws₂ : List ℕ} → xs₂ ≡ changed_counts w m (level_in p k) (guide_in p k) xs₁ →
        ws₂ ≡ changed_words w m (level_in p k) (guide_in p k) xs₁ ws₁
        → CountsPassed w a.levels m p (k + 1) xs ws xs₂ ws₂
    unfolding changed_counts changed_words
    counts-next ex ew =
        let kf : f / 64 < words_per m = omega (arith, hf) in
        rw (add-one k, ex, ew) (record {
          kept = record {
            long = length-set xs₁ _ _ ∙ g.kept.long;
            long_words = length-set ws₁ _ _ ∙ g.kept.long_words;
            rest = drop-set-lt (L * m) xs₁ (cell_at m i f) _ (digits_lt hi hf) ∙ g.kept.rest;
            rest_words = drop-set-lt (L * words_per m) ws₁ (word_at m i f) _ (digits_lt hi kf) ∙ g.kept.rest_words;
          };
          held =
              rep-eq L m _ _ _ _
              (λ i' f' u. changed-next w (count_in m xs i' f') (list_count p k i' f') (hit i f i' f') ∙ ap (changed w (count_in m xs i' f'))
              (sym (one_more i' f')))
              (rep-changed w L m i f _ xs₁ ws₁ hi hf hx hw g.held);
        })

-- ---- the box
module _ (w : Bool) (c : ℕ) (p : List Pixel) where
  pub list-abs : (k f : ℕ) (x : ℤ) → nat_abs (changedℤ w x (pixel_fold_to ◌+ℤ◌ (pos 0) p (side_of c f) k)) ≤ nat_abs x + k
  list-abs k f x =
      omega (
        arith,
        changed-abs w x (pixel_fold_to ◌+ℤ◌ (pos 0) p (side_of c f) k),
        high-abs p (side_of c f) 1 k
            (λ j h. side-abs c f (level_in p j) (guide_in p j)),
      )

  pub box-none : (bx : List ℤ) → BoxPassed w c p 0 bx bx
  box-none bx = record { long = refl; passed = passed_none integers (side_of c) w p (box_at bx) }

  module _ {bx : List ℤ} (br : BoxRoom (count_of p) bx) {k : ℕ} (h : k < count_of p) (low : guide_in p k < 256) {bx₁ : List ℤ}
      (g : BoxPassed w c p k bx bx₁) where
    pub cell_room : nat_abs (get_or bx₁ (guide_in p k) (pos 0)) ≤ 32766
    cell_room = rw (g.passed.cells (guide_in p k)) (omega (arith, list-abs k (guide_in p k) (box_at bx (guide_in p k)), br.room (guide_in p k), h))

    pub box-next : {bx₂ : List ℤ} → bx₂ ≡ set bx₁ (guide_in p k) (changedℤ w (get_or bx₁ (guide_in p k) (pos 0)) (side c (level_in p k))) →
        BoxPassed w c p (k + 1) bx bx₂
    box-next e = rw e (record {
      long = length-set bx₁ _ _ ∙ g.long;
      passed = passed-next integers (side_of c) g.passed (λ f'. ⊎_elim (at-cell f') (off-cell f') (eq-or-ne f' f));
    })
      where
        i : ℕ
        i = level_in p k

        f : ℕ
        f = guide_in p k

        v : ℤ
        v = changedℤ w (box_at bx₁ f) (side c i)

        at-cell : (f' : ℕ) → f' ≡ f → box_at (set bx₁ f v) f' ≡ changedℤ w (box_at bx₁ f') (side_of c f' i f)
        at-cell f' e =
            let l : f < length bx₁ = rw (g.long, br.long) low in
            rw e (get_or-set_same bx₁ f v (pos 0) l ∙ ap (changedℤ w (box_at bx₁ f)) (sym (side-here c i f)))

        off-cell : (f' : ℕ) → (f' ≡ f → ⊥) → box_at (set bx₁ f v) f' ≡ changedℤ w (box_at bx₁ f') (side_of c f' i f)
        off-cell f' n =
            get_or-set_other bx₁ f f' v (pos 0) n ∙ sym (changed-noneℤ w (box_at bx₁ f')) ∙ ap (changedℤ w (box_at bx₁ f')) (sym (side-away c i f' f n))

-- ---- a list adds at most its pixels
hit-le : (i f i' f' : ℕ) → hit i f i' f' ≤ 1
unfolding hit
hit-le i f i' f' = go (eqb i i' && eqb f f')
  where
    go : (c : Bool) → indicator c ≤ 1
    go true = omega arith
    go false = omega arith

pub list-le : (p : List Pixel) (k i f : ℕ) → list_count p k i f ≤ k
list-le p k i f = omega (arith, high p (λ v g. hit v g i f) 1 k (λ j h. hit-le (level_in p j) (guide_in p j) i f) k (omega arith))

-- ---- one list in, another out
module _ {m : ℕ} {e l : List Pixel} {xs ws : List ℕ} (x : Exchangeable m e l xs ws) {xs₁ ws₁ : List ℕ}
    (g : CountsPassed true x.entering.levels m e (count_of e) xs ws xs₁ ws₁) where
  pub own₁ : (i f : ℕ) → i < x.entering.levels → count_in m xs₁ i f ≡ count_in m xs i f + list_count e (count_of e) i f
  unfolding changed
  own₁ i f h = sym (rep-own _ _ _ xs₁ ws₁ g.held i f h)

  unfoldable pub leave-counts : Countable false m l xs₁ ws₁
  leave-counts = record {
    levels = x.entering.levels;
    levels_high = x.entering.levels_high;
    guides_high = x.entering.guides_high;
    cells = rw g.kept.long x.entering.cells;
    words = rw g.kept.long_words x.entering.words;
    held = rep-self _ _ _ xs₁ ws₁ g.held;
    below = x.leaving;
    fits = λ i f hi hf. omega (arith, x.there i f hi hf, own₁ i f hi, count-in m i f xs₁ hf);
  }

  pub counts-exchanged : {xs₂ ws₂ : List ℕ} → ((a : Countable false m l xs₁ ws₁) → CountsPassed false a.levels m l (count_of l) xs₁ ws₁ xs₂ ws₂)
      → ((k : ℕ) → get_or ws₂ k 0 < 2 ^ 64) → CountsExchanged x.entering.levels m e l xs ws xs₂ ws₂
  unfolding changed leave-counts
  counts-exchanged {xs₂} {ws₂} after fit = let o = after leave-counts in record {
    kept = record {
      long = o.kept.long ∙ g.kept.long;
      long_words = o.kept.long_words ∙ g.kept.long_words;
      rest = o.kept.rest ∙ g.kept.rest;
      rest_words = o.kept.rest_words ∙ g.kept.rest_words;
    };
    held = rep-eq _ _ _ _ xs₂ ws₂ (λ i f h. ap (λ (n : ℕ). n - list_count l (count_of l) i f) (own₁ i f h)) o.held;
    fits = fit;
  }

module _ (e l : List Pixel) {bx : List ℤ} (br : BoxRoom (count_of e + count_of l) bx) where
  pub enter-box : BoxRoom (count_of e) bx
  enter-box = record { long = br.long; room = λ f. omega (arith, br.room f) }

  module _ {c : ℕ} {bx₁ : List ℤ} (g : BoxPassed true c e (count_of e) bx bx₁) where
    pub leave-box : BoxRoom (count_of l) bx₁
    leave-box =
        record {
          long = g.long ∙ br.long;
          room =
              λ f. rw (g.passed.cells f) (omega (arith, list-abs true c e (count_of e) f (box_at bx f), br.room f));
        }

    pub box-exchanged : {bx₂ : List ℤ} → BoxPassed false c l (count_of l) bx₁ bx₂ → BoxExchanged c e l bx bx₂
    box-exchanged o = record { long = o.long ∙ g.long; exchanged = exchangedℤ (side_of c) g.passed o.passed }

-- ---- a window's stores and box, moved to a neighbour
module _ {b vs : List ℕ} {z : Plan} {s t c : ℕ} {xs ws : List ℕ} {bx : List ℤ} (hd : Held b vs z s t c xs ws bx) {s' t' : ℕ} {d : Step}
    (adj : Adjacent z s t s' t') (ed : d ≡ step_of z s t s' t')
    {e l : List Pixel} (re : LinePixels b vs z d.entering e) (rl : LinePixels b vs z d.leaving l) where
  abbrev at : ℕ → ℕ → ℕ → ℕ → ℕ
  at i f v g = hit v g i f

  pub counts_step : (i f : ℕ) → count (frame_with b vs) s' t' i f + pixel_fold ◌+◌ 0 l (at i f)
      ≡ count (frame_with b vs) s t i f + pixel_fold ◌+◌ 0 e (at i f)
  unfolding count hit
  counts_step i f = stepped (λ (h : ℕ → ℕ → ℕ). h) hd.pictured adj ed re rl (at i f)

  unfoldable pub entering-countable : Countable true z.guides e xs ws
  entering-countable = record {
    levels = z.levels;
    levels_high = levels_high hd.pictured;
    guides_high = guides_high hd.pictured;
    cells = rw (plan-cells hd.pictured) (held-cells hd);
    words = rw (plan-words hd.pictured) (held-words hd);
    held = rep-self _ _ _ xs ws (held-rep hd);
    below = re.below;
    fits = λ i f hi hf. omega (arith, (held-rep hd).cells i f hi hf, count_high (held-pixel hd) i f, list-le e (count_of e) i f, re.below.few);
  }

  unfoldable pub exchange-asks : Exchangeable z.guides e l xs ws × BoxRoom (count_of e + count_of l) bx
  unfolding entering-countable
  exchange-asks = (
    record {
      entering = entering-countable;
      leaving = rl.below;
      there = λ i f hi hf. omega (arith, rep-own _ _ _ xs ws (held-rep hd) i f hi, counts_step i f);
    },
    record { long = held-long hd; room = λ f. omega (arith, held_low hd f, re.below.few, rl.below.few) },
  )

  pub exchanged-joint : {xs₂ ws₂ : List ℕ} {bx₂ : List ℤ} →
      ((a : Exchangeable z.guides e l xs ws) → CountsExchanged a.entering.levels z.guides e l xs ws xs₂ ws₂)
      → BoxExchanged c e l bx bx₂ → JointAt (frame_with b vs) s' t' c xs ws xs₂ ws₂ bx₂
  unfolding exchange-asks entering-countable
  exchanged-joint {xs₂} {ws₂} {bx₂} after u =
      let o = after exchange-asks.0 in
      let q = both-in adj in
      joint-of hd.pictured (pixel-of hd.pictured q.2 q.3)
      o.kept
      (held-cells hd) (held-words hd)
      (rep-eq _ _ _ (count (frame_with b vs) s' t') xs₂ ws₂ (λ i f h. omega (arith, rep-own _ _ _ xs ws (held-rep hd) i f h, counts_step i f))
      o.held)
      o.fits
      (u.long ∙ held-long hd) each
    where
      each : (f : ℕ) → f < 256 → box_at bx₂ f ≡ cell (frame_with b vs) s' t' c f
      each f h =
          slid integers (side_of c) hd.pictured adj ed e l re.sumℤ rl.sumℤ u.exchanged f
          (ap (λ (y : List ℤ). box_at y f) hd.joint.box ∙ box-cell (frame_with b vs) s t c f h ∙ cell-sum (frame_with b vs) s t c f)
          ∙ sym (cell-sum (frame_with b vs) s' t' c f)
