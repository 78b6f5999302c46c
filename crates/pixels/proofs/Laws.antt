-- Laws of a line's pixels as a list: one pixel more, and the sums over the list are those over the line.
-- Assumes nothing.
use mathlib.Core.Path.{◌≡◌, refl, sym, ap, ap₂, ◌∙◌, subst}
use mathlib.Core.List.{List, [], ◌∷◌}
use Prim.Native.Nat.{ℕ, ◌+◌, ◌-◌, ◌≤◌, ◌<◌}
use native.Mathlib.Omega.{arith}
use lib.ListN.{length, set, take, drop, length-set}
use borrow.Author.Count.{below_more}
use lib.IntN.{ℤ, pos, ◌+ℤ◌}
use borrow.Author.Tests.{eq-eqb, ne_eqb}
use lib.Seq.{get_or-set_same, get_or-set_other, get_or-take, length-take-le}
use Rattle.spec.specs.declared.Plan.{Plan}
use Rattle.std.specs.Prelude.{get_or}
use Rattle.spec.specs.Frame.{no_reading, value_of, pixel_guide}
use Rattle.spec.specs.Checks.{Pictured}
use Rattle.spec.specs.Window.{span}
use Rattle.spec.proofs.Ranges.{AdditionLaws, nat_sums, int_sums, fold_same}
use Rattle.window.specs.declared.line.Line.{Line}
use Rattle.window.specs.declared.line.Step.{Step}
use Rattle.window.specs.Line.{PlanLimits, InPlanes, StepInPlanes, Adjacent, step_of, pixel_of, line_fold_to}
use Rattle.window.proofs.PixelLaws.{plan-limits, level-low, guide-low}
use Rattle.window.proofs.LineLaws.{line-none, line-more, lines-in, span-in, span-high}
use Rattle.pixels.specs.declared.Pixel.{Pixel}
use Rattle.pixels.specs.Pixels.{no_pixel, count_of, level_in, guide_in, pixel_fold_to, LinePixels}
use Rattle.pixels.proofs.AdditiveLaws.{pixels-none, pixels-more}

-- sums over a list's first n pixels go by these alone
same_fold : {A : Type 0} (◌⊕◌ : A → A → A) (o : A) → AdditionLaws ◌⊕◌ o → (p p' : List Pixel) (n : ℕ)
    → ((k : ℕ) → k < n → get_or p k no_pixel ≡ get_or p' k no_pixel)
    → (h : ℕ → ℕ → A) → pixel_fold_to ◌⊕◌ o p h n ≡ pixel_fold_to ◌⊕◌ o p' h n
unfolding pixel_fold_to
same_fold ◌⊕◌ o laws p p' n same h =
    fold_same ◌⊕◌ o laws _ _ 0 _ (λ k x y. ap (λ (q : Pixel). h q.value q.guide.0) (same k (omega arith)))

-- the list's first m pixels are the live ones of the line's first k
pub record ReadTo (b vs : List ℕ) (z : Plan) (d : Line) (k m : ℕ) (p : List Pixel) : Type 0 where
  pub long : 31 ≤ length p
  pub few : m ≤ k
  pub level : (j : ℕ) → j < m → level_in p j < z.levels
  pub guide : (j : ℕ) → j < m → guide_in p j < z.guides
  pub sum : (h : ℕ → ℕ → ℕ) → pixel_fold_to ◌+◌ 0 p h m ≡ line_fold_to ◌+◌ 0 b vs d h k
  pub sumℤ : (h : ℕ → ℕ → ℤ) → pixel_fold_to ◌+ℤ◌ (pos 0) p h m ≡ line_fold_to ◌+ℤ◌ (pos 0) b vs d h k

pub read_none : (b vs : List ℕ) (z : Plan) (d : Line) (p : List Pixel) → 31 ≤ length p → ReadTo b vs z d 0 0 p
read_none b vs z d p e = record {
  long = e;
  few = omega arith;
  level = λ j h. absurd (omega arith);
  guide = λ j h. absurd (omega arith);
  sum = λ h. pixels-none ◌+◌ 0 p h ∙ sym (line-none ◌+◌ 0 b vs d h);
  sumℤ = λ h. pixels-none ◌+ℤ◌ (pos 0) p h ∙ sym (line-none ◌+ℤ◌ (pos 0) b vs d h);
}

-- one pixel of the line more, x
module _ {b vs : List ℕ} {z : Plan} (pl : Pictured b vs z) {d : Line} (ins : InPlanes z d) {k m : ℕ} {x : Pixel} (h : k < d.count) {p : List Pixel}
    (v : ReadTo b vs z d k m p) (ei : x.value ≡ value_of b vs (pixel_of d k)) (ef : x.guide.0 ≡ pixel_guide b (pixel_of d k)) where
  module _ {A : Type 0} (◌⊕◌ : A → A → A) (o : A) (laws : AdditionLaws ◌⊕◌ o) (g : ℕ → ℕ → A) where
    infixl 6 ◌⊕◌
    dead-more : x.value ≡ no_reading → line_fold_to ◌⊕◌ o b vs d g (k + 1) ≡ line_fold_to ◌⊕◌ o b vs d g k
    dead-more e = line-more ◌⊕◌ o b vs d g k ∙ rw (sym ei, eq-eqb x.value no_reading e) (laws.idr _)

    live_more : (x.value ≡ no_reading → ⊥) → line_fold_to ◌⊕◌ o b vs d g (k + 1) ≡ line_fold_to ◌⊕◌ o b vs d g k ⊕ g x.value x.guide.0
    live_more n = line-more ◌⊕◌ o b vs d g k ∙ rw (sym ei, sym ef, ne_eqb x.value no_reading n) refl

  abbrev new : List Pixel
  new = set p m x

  here : get_or new m no_pixel ≡ x
  here = get_or-set_same p m x no_pixel (omega (arith, v.long, v.few, h, ins.few))

  others : (j : ℕ) → j < m → get_or new j no_pixel ≡ get_or p j no_pixel
  others j l = get_or-set_other p m j x no_pixel (λ e. absurd (omega arith))

  level_before : (j : ℕ) → j < m → level_in new j < z.levels
  level_before j l = omega (arith, ap (λ (q : Pixel). q.value) (others j l), v.level j l)

  guide-before : (j : ℕ) → j < m → guide_in new j < z.guides
  guide-before j l = omega (arith, ap (λ (q : Pixel). q.guide.0) (others j l), v.guide j l)

  before : {A : Type 0} (◌⊕◌ : A → A → A) (o : A) → AdditionLaws ◌⊕◌ o → (g : ℕ → ℕ → A) → pixel_fold_to ◌⊕◌ o new g m ≡ pixel_fold_to ◌⊕◌ o p g m
  before ◌⊕◌ o laws g = same_fold ◌⊕◌ o laws new p m others g

  -- a dead one is not counted, and the next is written over it
  pub dead-next : x.value ≡ no_reading → ReadTo b vs z d (k + 1) m (set p m x)
  dead-next e = record {
    long = rw (length-set p m x) v.long;
    few = omega (arith, v.few);
    level = level_before;
    guide = guide-before;
    sum = λ g. before ◌+◌ 0 nat_sums g ∙ v.sum g ∙ sym (dead-more ◌+◌ 0 nat_sums g e);
    sumℤ = λ g. before ◌+ℤ◌ (pos 0) int_sums g ∙ v.sumℤ g ∙ sym (dead-more ◌+ℤ◌ (pos 0) int_sums g e);
  }

  more : {A : Type 0} (◌⊕◌ : A → A → A) (o : A) → AdditionLaws ◌⊕◌ o → (g : ℕ → ℕ → A) → pixel_fold_to ◌⊕◌ o p g m ≡ line_fold_to ◌⊕◌ o b vs d g k
      → (x.value ≡ no_reading → ⊥) → pixel_fold_to ◌⊕◌ o new g (m + 1) ≡ line_fold_to ◌⊕◌ o b vs d g (k + 1)
  more ◌⊕◌ o laws g was n =
      pixels-more ◌⊕◌ o new g m ∙ ap₂ ◌⊕◌ (before ◌⊕◌ o laws g ∙ was) (ap (λ (q : Pixel). g q.value q.guide.0) here) ∙ sym (live_more ◌⊕◌ o laws g n)

  pub live-next : (x.value ≡ no_reading → ⊥) → ReadTo b vs z d (k + 1) (m + 1) (set p m x)
  live-next n = record {
    long = rw (length-set p m x) v.long;
    few = omega (arith, v.few);
    level = below_more _ _ level_before
        (omega (arith, ap (λ (q : Pixel). q.value) here, ei, level-low pl (ins.inside k h) (ne_eqb _ no_reading (λ e. n (ei ∙ e)))));
    guide = below_more _ _ guide-before (omega (arith, ap (λ (q : Pixel). q.guide.0) here, ef, guide-low pl (ins.inside k h)));
    sum = λ g. more ◌+◌ 0 nat_sums g (v.sum g) n;
    sumℤ = λ g. more ◌+ℤ◌ (pos 0) int_sums g (v.sumℤ g) n;
  }

module _ {b vs : List ℕ} {z : Plan} {d : Line} {m : ℕ} {p : List Pixel} (ins : InPlanes z d) (v : ReadTo b vs z d d.count m p) where
  abbrev part : List Pixel
  part = take m p

  many : count_of part ≡ m
  many = length-take-le m p (omega (arith, v.long, v.few, ins.few))

  same : (k : ℕ) → k < m → get_or part k no_pixel ≡ get_or p k no_pixel
  same k h = get_or-take m p k no_pixel h

  pub line-pixels : LinePixels b vs z d (take m p)
  line-pixels = record {
    below = record {
      few = omega (arith, many, v.few, ins.few);
      level = λ k h. let l : k < m = omega (arith, many, h) in omega (arith, ap (λ (q : Pixel). q.value) (same k l), v.level k l);
      guide = λ k h. let l : k < m = omega (arith, many, h) in omega (arith, ap (λ (q : Pixel). q.guide.0) (same k l), v.guide k l);
    };
    sum = λ h. ap (pixel_fold_to ◌+◌ 0 part h) many ∙ same_fold ◌+◌ 0 nat_sums part p m same h ∙ v.sum h;
    sumℤ = λ h. ap (pixel_fold_to ◌+ℤ◌ (pos 0) part h) many ∙ same_fold ◌+ℤ◌ (pos 0) int_sums part p m same h ∙ v.sumℤ h;
  }

-- the part of the places that a line was read into
pub line-part : {b vs : List ℕ} {z : Plan} {d : Line} (n : ℕ) (p : List Pixel) → LinePixels b vs z d (take n p)
    → LinePixels b vs z d (take (n - 0) (drop 0 p))
line-part n p v = let e : n - 0 ≡ n = omega arith in rw e v

-- a step's lines can be read
pub step_in : {b vs : List ℕ} {z : Plan} → Pictured b vs z → {s t s' t' : ℕ} → Adjacent z s t s' t' → {d : Step} → d ≡ step_of z s t s' t'
    → StepInPlanes z d
step_in pl adj ed = rw ed (lines-in (plan-limits pl) adj)

-- with no plane the file has the values
pub own-pixels : {b : List ℕ} (vs : List ℕ) {z : Plan} {d : Line} {p : List Pixel} → length vs ≡ 0 → LinePixels b [] z d p → LinePixels b vs z d p
own-pixels [] e r = r
own-pixels (v ∷ vs) e r = absurd (omega arith)

-- the column that a turn adds is in the picture, and the columns are few
module _ (z : Plan) (s : ℕ) {k n : ℕ} (en : n ≡ span z.radius s z.width) (h : k < n) where
  pub column-wide : {x : ℕ} → x ≡ s - z.radius → x + k < z.width
  column-wide ex = omega (arith, span-in z.radius s z.width k (subst (λ (m : ℕ). k < m) en h))

  pub column-few : PlanLimits z → k < 31
  column-few l = omega (arith, span-high z.radius s z.width l.radius)
