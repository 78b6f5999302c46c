-- Laws of a chain of checks as code meets them: a verdict in hand, a test of it, and the rest of the chain. Assumes nothing.
use mathlib.Core.Path.{◌≡◌, refl, sym, ap, ◌∙◌}
use mathlib.Core.Bool.{Bool, true, false, true≢false, ◌||◌}
use mathlib.Core.List.{[]}
use Prim.Native.Nat.{ℕ}
use Rattle.std.specs.Prelude.{if◌then◌else◌}
use Rattle.spec.specs.Refusal.{Outcome, accepted, refused, ◌▷◌, refuse, fires}

-- both sides of two equations that have one left side
pub same : {A : Type 0} {x y z : A} → x ≡ y → x ≡ z → y ≡ z
same p q = sym p ∙ q

-- ---- the first check that fires decides; one that doesn't leaves the rest to decide
pub fired : (u v : Outcome) → fires u ≡ true → u ≡ (u ▷ v)
fired accepted v e = absurd (true≢false (sym e))
fired (refused n l) v e = refl

pub silent : (u : Outcome) → fires u ≡ false → u ≡ accepted
silent accepted e = refl
silent (refused n l) e = absurd (true≢false e)

-- u is a verdict's outcome, which is x; f is the test whether it fires
pub stopped : (x y : Outcome) {u : Outcome} {f : Bool} → u ≡ x → f ≡ fires u → f ≡ true → u ≡ (x ▷ y)
stopped x y {u} e g h = fired u y (same g h) ∙ ap (λ (z : Outcome). z ▷ y) e

pub quiet : {u x : Outcome} {f : Bool} → u ≡ x → f ≡ fires u → f ≡ false → x ≡ accepted
quiet {u} e g h = sym e ∙ silent u (same g h)

pub past : (x y : Outcome) {u : Outcome} → x ≡ accepted → u ≡ y → u ≡ (x ▷ y)
past x y e h = h ∙ sym (ap (λ (z : Outcome). z ▷ y) e)

-- what is chosen by whether a verdict fires
pub if-fires : {A : Type 0} (x y : A) {u v : Outcome} {f : Bool} → u ≡ v → f ≡ fires u → f ≡ true → x ≡ (if fires v then x else y)
if-fires x y {u} e g h = sym (ap (λ (b : Bool). if b then x else y) (sym (ap fires e) ∙ same g h))

pub if-silent : {A : Type 0} (x y : A) {u v : Outcome} {f : Bool} → u ≡ v → f ≡ fires u → f ≡ false → y ≡ (if fires v then x else y)
if-silent x y {u} e g h = sym (ap (λ (b : Bool). if b then x else y) (sym (ap fires e) ∙ same g h))

-- a test that passes, one that fails
pub met : (n : ℕ) {f g : Bool} → f ≡ g → f ≡ true → refused n [] ≡ refuse n g
met n e h = sym (ap (refuse n) (same e h))

pub unmet : (n : ℕ) {f g : Bool} → f ≡ g → f ≡ false → refuse n g ≡ accepted
unmet n e h = ap (refuse n) (same e h)

-- ---- a test that joins two
pub or_else : (x y : Bool) {r : Bool} → x ≡ false → r ≡ y → r ≡ (x || y)
or_else x y e h = h ∙ ap (λ (b : Bool). b || y) (sym e)
