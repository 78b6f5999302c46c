-- The histogram changed by lists of pixels: a turn of the loop, two lists, the window's columns one after the other, and a step of the window.
-- Assumes nothing.
use mathlib.Core.Path.{◌≡◌, sym, ◌∙◌, subst}
use mathlib.Core.Bool.{Bool, true}
use mathlib.Core.List.{List}
use Prim.Native.Nat.{ℕ, ◌+◌, ◌-◌, ◌≤◌, ◌<◌}
use native.Mathlib.Omega.{arith}
use lib.ListN.{length, get_or}
use Rattle.spec.specs.declared.Plan.{Plan}
use Rattle.spec.specs.Frame.{frame_with}
use Rattle.spec.specs.Checks.{Pictured}
use Rattle.spec.specs.Window.{span}
use Rattle.window.specs.declared.line.Line.{Line}
use Rattle.window.specs.declared.line.Step.{Step}
use Rattle.window.specs.Line.{column_line, Adjacent, step_of}
use Rattle.window.proofs.PixelLaws.{guides_high, levels_high}
use Rattle.pixels.specs.declared.Pixel.{Pixel}
use Rattle.pixels.specs.Pixels.{count_of, level_in, guide_in, pixel_fold, PixelsBelow, LinePixels}
use Rattle.pixels.specs.Additive.{changed, Fits, PassedTo, Exchanged, SharesExchangeable}
use Rattle.pixels.proofs.AdditiveLaws.{columns-none, columns-more, columns-window, high, naturals, passed-next, room_next, leaving-there, slid}
use Rattle.window.proofs.FormLaws.{both-in}
use Rattle.histogram.specs.Histogram.{share, Changed, Blank, HistogramFilled, Histogram}
use Rattle.histogram.specs.Places.{HistogramPlace, share_at, number_at, RoomFor}
use Rattle.histogram.proofs.Laws.{own-count, own-sum, share-le, place_of, histogram-of, held_high, levels-same}

module _ {w : Bool} {l : ℕ} {p : List Pixel} {xs : List ℕ} (v : PixelsBelow l 256 p) (rm : RoomFor w l p xs) {k : ℕ} (h : k < count_of p) (ys : List ℕ)
    (g : PassedTo ◌+◌ 0 (share_at l) changed w p k (number_at l xs) (number_at l ys)) where
  abbrev i : ℕ
  i = level_in p k

  abbrev f : ℕ
  f = guide_in p k

  takes : (q : HistogramPlace l) (n : ℕ) → share_at l q i f ≡ n → Fits 4294967296 w (number_at l ys q) n
  takes q n e = subst (Fits 4294967296 w (number_at l ys q)) e (room_next (share_at l) g 4294967296 h q (rm.fits q))

  pub turn-asks : (i < l) × (Fits 4294967296 w (get_or ys i 0) 1) × (Fits 4294967296 w (get_or ys (l + i) 0) f)
  turn-asks =
      let low = v.level k h in (
        low,
        takes (record { at = i; low = omega arith }) 1 (own-count l i f low),
        takes (record { at = l + i; low = omega arith }) f (own-sum l i f low),
      )

  pub turn-next : {zs : List ℕ} → Changed w l i f ys zs → PassedTo ◌+◌ 0 (share_at l) changed w p (k + 1) (number_at l xs) (number_at l zs)
  turn-next c = passed-next naturals (share_at l) g (λ q. c.cells q.at)

-- ---- a list adds little
module _ {l : ℕ} {p : List Pixel} (v : PixelsBelow l 256 p) where
  pub list-high : (q : HistogramPlace l) → pixel_fold ◌+◌ 0 p (share_at l q) ≤ 7936
  list-high q =
      omega (
        arith,
        v.few,
        high p (share_at l q) 256 (count_of p) (λ k h. omega (arith, share-le l (level_in p k) (guide_in p k) q.at, v.guide k h))
            (count_of p) (omega arith),
      )

-- a plan's pixels have at most 256 guides
below : {b vs : List ℕ} {z : Plan} {p : List Pixel} → Pictured b vs z → PixelsBelow z.levels z.guides p → PixelsBelow z.levels 256 p
below pl u = record { few = u.few; level = u.level; guide = λ k h. omega (arith, u.guide k h, guides_high pl) }

-- ---- column by column
module _ {b vs : List ℕ} {z : Plan} (pl : Pictured b vs z) where
  pub filled-start : (x t : ℕ) {xs : List ℕ} → Blank z.levels xs → HistogramFilled b vs z x t 0 xs
  filled-start x t o = record {
    long = o.long;
    low = λ q l. omega (arith, o.zeros q l);
    cells = λ q l. o.zeros q l ∙ sym (columns-none ◌+◌ 0 b vs z x t (share z.levels q));
  }

  module _ {x t n : ℕ} {xs : List ℕ} (v : HistogramFilled b vs z x t n xs) {d : Line} (ed : d ≡ column_line z (x + n) t)
      {p : List Pixel} (r : LinePixels b vs z d p)
    where
      pub fill-asks : n < 31 →
          ((z.levels ≤ 1024) × (z.levels + z.levels ≤ length xs) × PixelsBelow z.levels 256 p) × RoomFor true z.levels p xs
      fill-asks few = (
        (levels_high pl, v.long, below pl r.below),
        record { fits = λ q. omega (arith, v.low q.at q.low, list-high (below pl r.below) q) },
      )

      pub filled_next : {ys : List ℕ} → length ys ≡ length xs →
          PassedTo ◌+◌ 0 (share_at z.levels) changed true p (count_of p) (number_at z.levels xs) (number_at z.levels ys) →
          HistogramFilled b vs z x t (n + 1) ys
      unfolding changed
      filled_next e g = record {
        long = rw e v.long;
        low = λ q l.
            let a : HistogramPlace z.levels = record { at = q; low = l } in
            omega (arith, g.cells a, v.low q l, list-high (below pl r.below) a);
        cells = λ q l. let h =
            share z.levels q in omega (
              arith,
              g.cells (record { at = q; low = l }),
              v.cells q l,
              columns-more ◌+◌ 0 b vs z x t h n p ed
                  (r.sum h),
            );
      }

  pub filled-end : {s t n x : ℕ} {xs : List ℕ} → x ≡ s - z.radius → n ≡ span z.radius s z.width → HistogramFilled b vs z x t n xs →
      Histogram (frame_with b vs) s t xs
  filled-end {s} {t} {x = x} ex en v = histogram-of pl v.long
      (λ q l. v.cells q l ∙ columns-window ◌+◌ 0 b vs z x t (share z.levels q) pl s ex en)

-- ---- a step of the window
module _ {b vs : List ℕ} {z : Plan} (pl : Pictured b vs z) {s t s' t' : ℕ} (adj : Adjacent z s t s' t') {d : Step} (ed : d ≡ step_of z s t s' t')
    {e l : List Pixel} (re : LinePixels b vs z d.entering e) (rl : LinePixels b vs z d.leaving l) {xs : List ℕ}
    (v : Histogram (frame_with b vs) s t xs) where
  abbrev L : ℕ
  L = z.levels

  long : L + L ≤ length xs
  long = rw (levels-same pl) v.long

  pub exchange-asks : ((L ≤ 1024) × (L + L ≤ length xs) × PixelsBelow L 256 e × PixelsBelow L 256 l) × SharesExchangeable (share_at L) 4294967296 e l
      (number_at L xs)
  exchange-asks = (
    (levels_high pl, long, below pl re.below, below pl rl.below),
    record {
      room =
          λ q. omega
          (arith, place_of pl v q.at q.low, held_high pl (both-in adj).0 (both-in adj).1 q.at, list-high (below pl re.below) q);
      there = leaving-there (share_at L) pl adj ed re rl (λ q. place_of pl v q.at q.low);
    },
  )

  pub exchanged-histogram : {ys : List ℕ} → length ys ≡ length xs → Exchanged ◌+◌ 0 (share_at L) e l (number_at L xs) (number_at L ys) →
      Histogram (frame_with b vs) s' t' ys
  exchanged-histogram n x =
      histogram-of pl (rw n long)
      (λ q lo. slid naturals (share_at L) pl adj ed e l re.sum rl.sum x (record { at = q; low = lo }) (place_of pl v q lo))
