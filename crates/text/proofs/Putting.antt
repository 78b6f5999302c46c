-- Laws of texts in a buffer: one behind the other, and the room for each. Every function that puts text cites these.
-- Assumes nothing.
use Prim.Native.Nat.{ℕ, zero, suc, ◌+◌, ◌-◌, ◌≤◌, ◌<◌}
use mathlib.Core.Path.{◌≡◌, refl, sym, ap, ◌∙◌}
use mathlib.Core.List.{List, [], ◌∷◌, ◌++◌}
use native.Mathlib.Nat.{add-zero, zero-add}
use native.Mathlib.Numerals.{add-one}
use native.Mathlib.Omega.{arith}
use lib.ListN.{length, drop, length-append}
use lib.Seq.{sets, length-sets, sets-eq}
use Rattle.spec.proofs.Lists.{sets-append}
use Rattle.text.specs.Text.{TextRoom, Puts, pieces}

-- no text, and one text behind another
pub none : (l : List ℕ) (at : ℕ) → Puts l l at at []
none l at = record { stored = refl; behind = sym (add-zero at) }

pub joined : {l m o : List ℕ} {at q r : ℕ} {s t : List ℕ} → Puts l m at q s → Puts m o q r t → Puts l o at r (s ++ t)
joined {l} {m} {o} {at} {q} {r} {s} {t} a b =
    record {
      stored = b.stored ∙ ap (λ (x : List ℕ). sets x q t) a.stored ∙ ap (λ (j : ℕ). sets (sets l at s) j t) a.behind ∙ sets-append s t l at;
      behind = let h : r ≡ q + length t = b.behind in let g : q ≡ at + length s = a.behind in simp length-append (omega arith);
    }

pub as_long : {l m : List ℕ} {at q : ℕ} {s : List ℕ} → Puts l m at q s → length m ≡ length l
as_long {l} {m} {at} {q} {s} a = ap length a.stored ∙ length-sets l at s

-- the same text by another name
pub called : {l m : List ℕ} {at q : ℕ} {s t : List ℕ} → s ≡ t → Puts l m at q s → Puts l m at q t
called {l} {m} {at} {q} e a = record { stored = a.stored ∙ ap (sets l at) e; behind = a.behind ∙ ap (λ (x : List ℕ). at + length x) e }

-- ---- room: for the first of two texts, and for the second behind it
pub room-first : (l : List ℕ) (at : ℕ) (s t : List ℕ) → TextRoom l at (s ++ t) → TextRoom l at s
room-first l at s t h = let e = length-append s t in omega arith

pub room_next : {l m : List ℕ} {at q : ℕ} {s : List ℕ} (t : List ℕ) → TextRoom l at (s ++ t) → Puts l m at q s → TextRoom m q t
room_next {l} {m} {at} {q} {s} t h a =
    let e = length-append s t in
    let n : length m ≡ length l = as_long a in
    let b : q ≡ at + length s = a.behind in
    omega arith

-- ---- pieces in a loop
pub pieces-next : (f : ℕ → List ℕ) (n : ℕ) → pieces f (suc n) ≡ pieces f n ++ f n
unfolding pieces
pieces-next f n = refl

pub pieces-grow : (f : ℕ → List ℕ) (k n : ℕ) → length (pieces f k) ≤ length (pieces f (k + n))
pieces-grow f k zero = let e : k + 0 ≡ k = omega arith in rw e (omega arith)
pieces-grow f k (suc n) =
    let e : k + suc n ≡ suc (k + n) = omega arith in
    let h = pieces-grow f k n in
    rw (e, pieces-next f (k + n), length-append (pieces f (k + n)) (f (k + n))) (omega arith)

pub room-piece : {l m : List ℕ} {at q : ℕ} (f : ℕ → List ℕ) (k n : ℕ) → k < n → TextRoom l at (pieces f n) → Puts l m at q (pieces f k) →
    TextRoom m q (f k)
room-piece {l} {m} {at} {q} f k n h room a =
    let e : suc k + (n - suc k) ≡ n = omega arith in
    let g : length (pieces f (suc k)) ≤ length (pieces f n) = rw e at (pieces-grow f (suc k) (n - suc k)) in
    let j : length (pieces f (suc k)) ≡ length (pieces f k) + length (f k) = ap length (pieces-next f k) ∙ length-append (pieces f k) (f k) in
    let b : q ≡ at + length (pieces f k) = a.behind in
    let i : length m ≡ length l = as_long a in
    omega arith

pub joined-piece : {l m o : List ℕ} {at q r : ℕ} (f : ℕ → List ℕ) (k : ℕ) → Puts l m at q (pieces f k) → Puts m o q r (f k) →
    Puts l o at r (pieces f (k + 1))
joined-piece f k a b = called (sym (ap (pieces f) (add-one k) ∙ pieces-next f k)) (joined a b)

-- ---- a line of two texts: the room for each, and for the end of the line
pub room-line : (l : List ℕ) (at : ℕ) (s t : List ℕ) → TextRoom l at (s ++ t ++ (10 ∷ [])) → TextRoom l at s
room-line l at s t h = room-first l at s t (room-first l at (s ++ t) (10 ∷ []) h)

pub room-second : {l m : List ℕ} {at q : ℕ} {s : List ℕ} (t : List ℕ) → TextRoom l at (s ++ t ++ (10 ∷ [])) → Puts l m at q s → TextRoom m q t
room-second {l} {m} {at} {q} {s} t h a = room_next t (room-first l at (s ++ t) (10 ∷ []) h) a

pub room-end : {l m o : List ℕ} {at q r : ℕ} {s t : List ℕ} → TextRoom l at (s ++ t ++ (10 ∷ [])) → Puts l m at q s → Puts m o q r t →
    TextRoom o r (10 ∷ [])
room-end h a b = room_next (10 ∷ []) h (joined a b)

-- ---- a text from the buffer's first byte on
pub from_start : {l m : List ℕ} {q : ℕ} {s : List ℕ} → TextRoom l 0 s → Puts l m 0 q s → (q ≡ length s) × (m ≡ s ++ drop (length s) l)
from_start {l} {m} {q} {s} h a =
    (a.behind ∙ zero-add (length s), a.stored ∙ sets-eq s l 0 h ∙ ap (λ (j : ℕ). s ++ drop j l) (zero-add (length s)))
