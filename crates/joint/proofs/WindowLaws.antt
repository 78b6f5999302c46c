-- From lists to windows: stores that represent a window's counts are the window's lists.
-- Assumes nothing.
use mathlib.Core.Path.{◌≡◌, refl, sym, ap, ap₂, ◌∙◌, subst}
use mathlib.Core.Logic.{⊎_elim}
use mathlib.Core.List.{List, ◌++◌}
use Prim.Native.Nat.{ℕ, ◌*◌, ◌^◌, ◌≤◌, ◌<◌}
use native.Mathlib.Omega.{arith}
use lib.ListN.{length, get_or, drop, get_or-eq_default}
use lib.Seq.{ext_get_or, drop_at}
use lib.IntN.{ℤ, pos, nat_abs, ◌+ℤ◌}
use Rattle.ints.specs.Order.{lt-or-le}
use Rattle.spec.specs.declared.Plan.{Plan}
use Rattle.spec.specs.Frame.{Frame, frame_with}
use Rattle.spec.specs.Checks.{Pictured}
use Rattle.spec.specs.Window.{count}
use Rattle.spec.specs.Joint.{joint_counts, occupancy_words, balance_box_at}
use Rattle.spec.proofs.First.{length-tabulate}
use Rattle.spec.proofs.Limits.{Pixel}
use Rattle.spec.proofs.Plans.{facts, pixel-of}
use Rattle.spec.proofs.Levels.{cell, box-cell}
use Rattle.spec.proofs.Bounds.{cell-abs}
use Rattle.pixels.specs.Additive.{window_sum}
use Rattle.joint_pixel.specs.Store.{words_per, Rep}
use Rattle.joint_pixel.specs.Side.{side, side_of}
use Rattle.joint.specs.List.{RestKept}
use Rattle.joint.specs.Window.{cell_count, word_count, JointAt, Held}
use Rattle.joint.proofs.ListLaws.{begun-long, lists-rep, rep-counts, rep-bits, counts-long, bits-long}

-- ---- the box
pub cell-sum : (p : Frame) (s t c f : ℕ) → cell p s t c f ≡ window_sum ◌+ℤ◌ (pos 0) (side_of c) p s t f
unfolding cell side_of side
cell-sum p s t c f = refl

pub box_long : (p : Frame) (s t c : ℕ) → length (balance_box_at p s t c) ≡ 256
unfolding balance_box_at
box_long p s t c = length-tabulate 256 _

pub box-abs : {p : Frame} {s t : ℕ} → Pixel p s t → (c f : ℕ) → nat_abs (get_or (balance_box_at p s t c) f (pos 0)) ≤ 961
box-abs {p} {s} {t} k c f = ⊎_elim inside beyond (lt-or-le f 256)
  where
    inside : f < 256 → nat_abs (get_or (balance_box_at p s t c) f (pos 0)) ≤ 961
    inside h = rw (box-cell p s t c f h) (cell-abs k c f)

    beyond : 256 ≤ f → nat_abs (get_or (balance_box_at p s t c) f (pos 0)) ≤ 961
    beyond h =
        let l : length (balance_box_at p s t c) ≤ f = rw (box_long p s t c) h in
        rw (get_or-eq_default (balance_box_at p s t c) (pos 0) l) (omega arith)

-- a list of 256 cells that are the window's is the box
pub box-is : (p : Frame) (s t c : ℕ) (bx : List ℤ) → length bx ≡ 256 → ((f : ℕ) → f < 256 → get_or bx f (pos 0) ≡ cell p s t c f) →
    bx ≡ balance_box_at p s t c
box-is p s t c bx l e =
    ext_get_or (pos 0) bx (balance_box_at p s t c) (l ∙ sym (box_long p s t c))
    (λ f h. let k : f < 256 = subst (λ (n : ℕ). f < n) l h in e f k ∙ sym (box-cell p s t c f k))

-- ---- the stores
module _ {b vs : List ℕ} {z : Plan} (pl : Pictured b vs z) where
  pub plan-cells : z.levels * z.guides ≡ cell_count (frame_with b vs)
  plan-cells = let f = facts pl in ap₂ (λ (u v : ℕ). u * v) f.levels f.guides

  pub plan-words : z.levels * words_per z.guides ≡ word_count (frame_with b vs)
  plan-words = let f = facts pl in ap₂ (λ (u v : ℕ). u * words_per v) f.levels f.guides

  module _ {s t : ℕ} (px : Pixel (frame_with b vs) s t) where
    pub rep-of : {c : ℕ} {xs ws : List ℕ} {bx : List ℤ} → JointAt (frame_with b vs) s t c xs ws xs ws bx →
        Rep z.levels z.guides (count (frame_with b vs) s t) xs ws
    rep-of {c} {xs} {ws} j =
        let f = facts pl in
        rw (f.levels, f.guides) (lists-rep (frame_with b vs) s t px xs ws j.counts j.words)

    pub joint-of : {c : ℕ} {xs ws xs' ws' : List ℕ} {bx' : List ℤ} → RestKept z.levels z.guides xs ws xs' ws' →
        cell_count (frame_with b vs) ≤ length xs → word_count (frame_with b vs) ≤ length ws
        → Rep z.levels z.guides (count (frame_with b vs) s t) xs' ws' → ((k : ℕ) → get_or ws' k 0 < 2 ^ 64)
        → length bx' ≡ 256 → ((f : ℕ) → f < 256 → get_or bx' f (pos 0) ≡ cell (frame_with b vs) s t c f)
        → JointAt (frame_with b vs) s t c xs ws xs' ws' bx'
    joint-of {c} {xs} {ws} {xs'} {ws'} {bx'} kp hx hw r fit l e =
        let f = facts pl in
        let p = frame_with b vs in
        let q : Rep p.set.levels p.set.guides (count p s t) xs' ws' = rw (f.levels, f.guides) at r in
        record {
          counts = rep-counts p s t px xs' ws' q (rw kp.long hx) ∙ ap (λ (y : List ℕ). joint_counts p s t ++ y) (rw plan-cells at kp.rest);
          words =
              rep-bits p s t px xs' ws' q (rw kp.long_words hw) fit ∙ ap (λ (y : List ℕ). occupancy_words p s t ++ y)
              (rw plan-words at kp.rest_words);
          box = box-is p s t c bx' l e;
        }

-- stores that became a window's are the window's
pub settled : {p : Frame} {s t c : ℕ} {xs ws xs' ws' : List ℕ} {bx' : List ℤ} → Pixel p s t → JointAt p s t c xs ws xs' ws' bx' →
    JointAt p s t c xs' ws' xs' ws' bx'
settled {p} {s} {t} {c} {xs} {ws} {xs'} {ws'} px j = record {
  counts =
      j.counts ∙ ap (λ (y : List ℕ). joint_counts p s t ++ y)
      (sym (ap (drop (cell_count p)) j.counts ∙ drop_at (joint_counts p s t) (drop (cell_count p) xs) (cell_count p) (counts-long p s t px)));
  words =
      j.words ∙ ap (λ (y : List ℕ). occupancy_words p s t ++ y)
      (sym (ap (drop (word_count p)) j.words ∙ drop_at (occupancy_words p s t) (drop (word_count p) ws) (word_count p) (bits-long p s t px)));
  box = j.box;
}

-- ---- a held window
module _ {b vs : List ℕ} {z : Plan} {s t c : ℕ} {xs ws : List ℕ} {bx : List ℤ} (hd : Held b vs z s t c xs ws bx) where
  pub held-pixel : Pixel (frame_with b vs) s t
  held-pixel = pixel-of hd.pictured hd.column hd.row

  pub held-rep : Rep z.levels z.guides (count (frame_with b vs) s t) xs ws
  held-rep = rep-of hd.pictured held-pixel hd.joint

  pub held-cells : cell_count (frame_with b vs) ≤ length xs
  held-cells = begun-long _ xs (joint_counts (frame_with b vs) s t) (counts-long (frame_with b vs) s t held-pixel) hd.joint.counts

  pub held-words : word_count (frame_with b vs) ≤ length ws
  held-words = begun-long _ ws (occupancy_words (frame_with b vs) s t) (bits-long (frame_with b vs) s t held-pixel) hd.joint.words

  pub held_low : (f : ℕ) → nat_abs (get_or bx f (pos 0)) ≤ 961
  held_low f = rw hd.joint.box (box-abs held-pixel c f)

  pub held-long : length bx ≡ 256
  held-long = ap length hd.joint.box ∙ box_long (frame_with b vs) s t c
