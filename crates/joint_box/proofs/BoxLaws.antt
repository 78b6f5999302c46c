-- Laws of the box's products: parts join, and stay small, because the cells' sizes add up to at most 961; what is taken off the weights comes back.
-- Assumes nothing.
use mathlib.Core.Path.{◌≡◌, refl, sym, ap, ap₂, ◌∙◌}
use mathlib.Core.Bool.{Bool, true, false, cond}
use mathlib.Core.List.{List, [], ◌∷◌}
use Prim.Native.Nat.{ℕ, zero, suc, ◌+◌, ◌-◌, ◌*◌, ◌≤◌, ◌<◌}
use native.Mathlib.Nat.{zero-add, add-zero, add-suc, add_assoc, add-mul, le_refl}
use native.Mathlib.Omega.{arith}
use lib.Dec.{ltb}
use lib.ListN.{length, get_or, take, drop}
use Rattle.std.proofs.lemmas.List.{length-take}
use lib.Seq.{get_or-take, get_or-drop}
use lib.IntN.{ℤ, pos, negsuc, nat_abs, ◌+ℤ◌, ◌*ℤ◌, +ℤ_idl, +ℤ_idr, +ℤ_assoc}
use lib.Signed.{mag}
use mir.Syntax.{w16, w32}
use mir.Val.{SFits, to_z, of_z}
use mir.Facts.{to_z-of_z}
use Rattle.ints.specs.Bound.{abs-add-le, abs-mul-le, sfits-abs}
use Rattle.ints.specs.Machine.{Cell, read-bounded}
use Rattle.ints.specs.Auto.{quote, signed_code}
use Rattle.ints.proofs.Auto.{need!, computes! }
use Rattle.ints.specs.Ring.{mul-one}
use Rattle.ints.specs.Polynomial.{◌⊕◌, ◌⊖◌, ◌⊗◌, #◌, ◌≐◌, solve4}
use Rattle.spec.specs.Base.{fold}
use Rattle.spec.proofs.Sums.{sum-suc}
use Rattle.joint_cells.specs.Scan.{RowFits}
use Rattle.joint_cells.specs.Box.{BoxInBounds, box_size}
use Rattle.joint_box.specs.Products.{PartFits, box_part, box_dot, box_sum, centred, centred_part}

size-next : (bx : List ℤ) (n : ℕ) → box_size bx (suc n) ≡ box_size bx n + nat_abs (get_or bx n (pos 0))
unfolding box_size
size-next bx n = sum-suc (λ f. nat_abs (get_or bx f (pos 0))) n

-- ---- with any factors
module _ (bx : List ℤ) (factor : ℕ → ℤ) where
  abbrev term : ℕ → ℤ
  term k = get_or bx k (pos 0) *ℤ factor k

  part-next : (f n : ℕ) → box_part bx factor f (suc n) ≡ box_part bx factor f n +ℤ term (f + n)
  unfolding box_part fold
  part-next f n = refl

  pub part_none : (f : ℕ) → box_part bx factor f 0 ≡ pos 0
  unfolding box_part fold
  part_none f = refl

  pub part-one : (f : ℕ) → box_part bx factor f 1 ≡ term f
  part-one f = part-next f 0 ∙ ap₂ (λ (x : ℤ) (k : ℕ). x +ℤ term k) (part_none f) (add-zero f) ∙ +ℤ_idl (term f)

  part_join : (f n k : ℕ) → box_part bx factor f (n + k) ≡ box_part bx factor f n +ℤ box_part bx factor (f + n) k
  part_join f n zero =
      ap (box_part bx factor f) (add-zero n) ∙ sym (+ℤ_idr _) ∙ ap (λ (x : ℤ). box_part bx factor f n +ℤ x) (sym (part_none (f + n)))
  part_join f n (suc k) =
      ap (box_part bx factor f) (add-suc n k) ∙ part-next f (n + k) ∙ ap₂ (λ (x : ℤ) (j : ℕ). x +ℤ term j) (part_join f n k) (sym (add_assoc f n k))
      ∙ +ℤ_assoc (box_part bx factor f n) (box_part bx factor (f + n) k) (term (f + n + k)) ∙ ap (λ (x : ℤ). box_part bx factor f n +ℤ x)
      (sym (part-next (f + n) k))

  -- each at most B in size
  part-size : (B f n : ℕ) → ((k : ℕ) → f ≤ k → k < f + n → nat_abs (factor k) ≤ B) →
      nat_abs (box_part bx factor f n) + box_size bx f * B ≤ box_size bx (f + n) * B
  part-size B f zero low = rw (part_none f, add-zero f) (omega arith)
  part-size B f (suc n) low =
      let x : ℤ = get_or bx (f + n) (pos 0) in
      rw (part-next f n, add-suc f n, size-next bx (f + n), add-mul (box_size bx (f + n)) (nat_abs x) B)
      (omega (
        arith,
        abs-add-le (box_part bx factor f n) (term (f + n)) (le_refl _)
            (abs-mul-le x (factor (f + n)) {A = nat_abs x} {B = B} (le_refl _) (low (f + n) (omega arith) (omega arith))),
        part-size B f n (λ k a b. low k a (omega arith)),
      ))

-- ---- what is taken off the weights, and its return
module _ (bx : List ℤ) (row : List ℕ) where
  none-none : box_dot bx row 0 ≡ centred_part bx row 0 0 +ℤ pos 32768 *ℤ box_sum bx 0
  unfolding box_part fold
  none-none = refl

  pub dot-centred : (n : ℕ) → box_dot bx row n ≡ centred_part bx row 0 n +ℤ pos 32768 *ℤ box_sum bx n
  dot-centred zero = none-none
  dot-centred (suc n) =
      let x = get_or bx (0 + n) (pos 0) in
      let v = pos (get_or row (0 + n) 0) in
      part-next bx _ 0 n ∙ ap (λ (d : ℤ). d +ℤ x *ℤ v) (dot-centred n)
      ∙ solve4 (λ p a x v. (p ⊕ # 32768 ⊗ a) ⊕ x ⊗ v ≐ (p ⊕ x ⊗ (v ⊖ # 32768)) ⊕ # 32768 ⊗ (a ⊕ x ⊗ # 1)) refl (centred_part bx row 0 n)
      (box_sum bx n) x v
      ∙ sym (ap₂ (λ (p a : ℤ). p +ℤ pos 32768 *ℤ a) (part-next bx _ 0 n) (part-next bx _ 0 n))

-- what is left of a weight is a signed number of 16 bits
centred-sizes : (n : ℕ) → n ≤ 65535 → (nat_abs (centred n) ≤ 32768) × (mag (centred n) < 32768)
centred-sizes n h = go (ltb n 32768)
  where
    go : (b : Bool) → (nat_abs (cond b (negsuc (32768 - suc n)) (pos (n - 32768))) ≤ 32768)
        × (mag (cond b (negsuc (32768 - suc n)) (pos (n - 32768))) < 32768)
    go true = (omega arith, omega arith)
    go false = (omega arith, omega arith)

pub centred-low : (n : ℕ) → n ≤ 65535 → nat_abs (centred n) ≤ 32768
centred-low n h = (centred-sizes n h).0

pub centred-fits : (n : ℕ) → n ≤ 65535 → SFits w16 (centred n)
centred-fits n h = record { sfits = (centred-sizes n h).1 }

-- ---- the cells
module _ {bx : List ℤ} (lo : BoxInBounds bx) where
  pub cell-back : (f : ℕ) → to_z w16 (of_z w16 (get_or bx f (pos 0))) ≡ get_or bx f (pos 0)
  cell-back f = read-bounded w16 {z = get_or bx f (pos 0)} 961 (lo.low f) tt

  pub sum_low : (n : ℕ) → n ≤ 256 → nat_abs (box_sum bx n) ≤ 961
  sum_low n h = omega (arith, part-size bx (λ k. pos 1) 1 0 n (λ k a b. omega arith), lo.few (0 + n) (omega (arith, zero-add n)))

  -- one more of them
  module _ (f : ℕ) (h : f < 256) {x y : ℤ} (ex : x ≡ box_sum bx f) (ey : y ≡ get_or bx f (pos 0)) where
    cell-joined : x +ℤ to_z w16 (of_z w16 y) ≡ box_sum bx (f + 1)
    cell-joined =
        ap₂ (λ (i j : ℤ). i +ℤ j) ex (ap (λ (i : ℤ). to_z w16 (of_z w16 i)) ey ∙ cell-back f ∙ sym (mul-one (get_or bx f (pos 0))) ∙ sym (part-one bx (λ k. pos 1) f))
        ∙ ap (λ (k : ℕ). box_sum bx f +ℤ box_part bx (λ j. pos 1) k 1) (sym (zero-add f))
        ∙ sym (part_join bx (λ k. pos 1) 0 f 1)

    pub cell-fits : SFits w16 (x +ℤ to_z w16 (of_z w16 y))
    cell-fits = rw cell-joined (sfits-abs 961 (sum_low (f + 1) (omega arith)) tt)

    pub cell-more : to_z w16 (of_z w16 (x +ℤ to_z w16 (of_z w16 y))) ≡ box_sum bx (f + 1)
    cell-more = to_z-of_z {w = w16} cell-fits ∙ cell-joined

-- a list's part, by the list
pub in_part : {A : Type 0} (xs : List A) (f n k : ℕ) (d : A) → k < n → get_or (take (f + n - f) (drop f xs)) k d ≡ get_or xs (f + k) d
in_part xs f n k d h = let e : f + n - f ≡ n = omega arith in rw e (get_or-take n (drop f xs) k d h ∙ get_or-drop f xs k d)

-- ---- the products
module _ {bx : List ℤ} {row : List ℕ} where
  -- a part of a part
  pub part-within : {f n g k : ℕ} → PartFits n f bx row → f ≤ g → g + k ≤ f + n → PartFits k g bx row
  part-within p h l = record {
    low = p.low;
    inside = omega (arith, p.inside);
    long = omega (arith, p.long);
    weights = λ j a b. p.weights j (omega arith) (omega arith);
  }

  pub part_low : {f n : ℕ} → PartFits n f bx row → nat_abs (centred_part bx row f n) ≤ 31490048
  part_low {f} {n} p =
      omega (
        arith,
        part-size bx (λ k. centred (get_or row k 0)) 32768 f n (λ k a b. centred-low (get_or row k 0) (p.weights k a b)),
        p.low.few (f + n) p.inside,
      )

  -- ---- x is the sum of n cells from f on, q of the k after them: with them, m cells
  module _ (n k : ℕ) {f j m : ℕ} (p : PartFits m f bx row) (ej : j ≡ f + n) (em : m ≡ n + k) {x q : ℤ} (ex : x ≡ centred_part bx row f n)
      (eq : q ≡ centred_part bx row j k) where
    back : to_z w32 (of_z w32 q) ≡ q
    back = read-bounded w32 {z = q} 31490048 (rw eq (part_low (part-within p (omega arith) (omega arith)))) tt

    joined : x +ℤ to_z w32 (of_z w32 q) ≡ centred_part bx row f m
    joined =
        ap₂ (λ (a b : ℤ). a +ℤ b) ex (back ∙ eq ∙ ap (λ (i : ℕ). centred_part bx row i k) ej)
        ∙ sym (part_join bx _ f n k) ∙ ap (centred_part bx row f) (sym em)

    pub more-fits : SFits w32 (x +ℤ to_z w32 (of_z w32 q))
    more-fits = rw joined (sfits-abs 31490048 (part_low p) tt)

    pub more : to_z w32 (of_z w32 (x +ℤ to_z w32 (of_z w32 q))) ≡ centred_part bx row f m
    more = to_z-of_z {w = w32} more-fits ∙ joined

  -- ---- the product of the k-th pair of a part's cells and weights
  module _ {f n : ℕ} (p : PartFits n f bx row) (k : ℕ) {cell : ℤ} {weight : ℕ}
      (t : (k < length (take (f + n - f) (drop f bx))) × (k < length (take (f + n - f) (drop f row)))
      × ((d : ℤ) → cell ≡ get_or (take (f + n - f) (drop f bx)) k d) × ((d : ℕ) → weight ≡ get_or (take (f + n - f) (drop f row)) k d)) where
    pub turn-low : k < n
    turn-low = let e : f + n - f ≡ n = omega arith in omega (arith, t.0, length-take (f + n - f) (drop f bx))

    pub product : {x y z : ℤ} → x ≡ to_z w16 (of_z w16 cell) → y ≡ centred weight → z ≡ to_z w16 (of_z w16 y) →
        to_z w32 (of_z w32 x) *ℤ to_z w32 (of_z w32 z) ≡ centred_part bx row (f + k) 1
    product {x} {y} {z} ex ey ez =
        let w = p.weights (f + k) (omega arith) (omega (arith, turn-low)) in
        let dx : x ≡ get_or bx (f + k) (pos 0) =
        ex ∙ ap (λ (q : ℤ). to_z w16 (of_z w16 q)) (t.2 (pos 0) ∙ in_part bx f n k (pos 0) turn-low) ∙ cell-back p.low (f + k) in
        let dy : y ≡ centred (get_or row (f + k) 0) = ey ∙ ap centred (t.3 0 ∙ in_part row f n k 0 turn-low) in
        let dz : z ≡ centred (get_or row (f + k) 0) = ez ∙ ap (λ (q : ℤ). to_z w16 (of_z w16 q)) dy ∙ to_z-of_z (centred-fits _ w) in
        ap₂ (λ (i j : ℤ). i *ℤ j)
        (read-bounded w32 {z = x} 961 (rw dx (p.low.low (f + k))) tt ∙ dx)
        (read-bounded w32 {z = z} 32768 (rw dz (centred-low _ w)) tt ∙ dz)
        ∙ sym (part-one bx _ (f + k))

  -- ---- the first cells of the box, as the search asks for them
  pub part_of : {m : ℕ} → m ≤ 256 → RowFits m row → BoxInBounds bx → PartFits m 0 bx row
  part_of {m} hm r lo = record {
    low = lo;
    inside = omega (arith, zero-add m);
    long = omega (arith, zero-add m, r.inside);
    weights = λ k a b. r.low k (omega (arith, zero-add m));
  }

-- ---- half of each weight comes back
module _ {x d a s : ℤ} (ex : x ≡ d) (ea : a ≡ s) (dot-low : nat_abs d ≤ 31490048) (sum-low : nat_abs s ≤ 961) where
  abbrev cells : List Cell
  cells =
      record { has = x; is = d; bound = 31490048; same = ex; small = dot-low }
      ∷ record { has = to_z w32 (of_z w32 a); is = s; bound = 961; same = ap (λ (z : ℤ). to_z w32 (of_z w32 z)) ea ∙ read-bounded w32 961 sum-low tt; small = sum-low }
      ∷ []

  pub restored-fits : SFits w32 (x +ℤ to_z w32 (of_z w32 (pos 32768 *ℤ to_z w32 (of_z w32 a))))
  restored-fits = need! w32 cells (search signed_code depth 12) tt

  pub restored : to_z w32 (of_z w32 (x +ℤ to_z w32 (of_z w32 (pos 32768 *ℤ to_z w32 (of_z w32 a))))) ≡ d +ℤ pos 32768 *ℤ s
  restored = computes! w32 cells (search signed_code depth 12) (search quote depth 12) tt refl
