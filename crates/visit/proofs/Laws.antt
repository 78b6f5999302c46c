-- A visit's state and the definition's.
-- Assumes nothing.
use Prim.Native.Nat.{ℕ}
use mathlib.Core.Path.{◌≡◌, sym, ap, ◌∙◌, subst}
use mathlib.Core.Bool.{true}
use Rattle.spec.specs.declared.Answer.{Answer}
use Rattle.spec.specs.declared.Level.{Level}
use Rattle.spec.specs.declared.Way.{Way}
use Rattle.spec.specs.Frame.{Frame}
use Rattle.spec.specs.Window.{empty}
use Rattle.spec.specs.Walk.{State, arrive}
use Rattle.spec.proofs.Walks.{arrive-way, arrive-column, arrive-row, arrive-empty}
use Rattle.window.specs.declared.sums.Sums.{Sums}
use Rattle.chain_nodes.specs.declared.FreeList.{FreeList}
use Rattle.visit.specs.declared.Running.{Running}
use Rattle.visit.specs.declared.Visit.{Visit}
use Rattle.visit.specs.Visit.{state_of, unread}

-- it is the definition's where the pixel is the window's and cut point, shift count and answer are the definition's
pub state-is : (way : Way) (p : Frame) (s t c n : ℕ) (cut : Level) (shifts : ℕ) (answer : Level) (running : Running)
    → cut.0 ≡ (arrive way p s t c n).cut → shifts ≡ (arrive way p s t c n).shifts → answer.0 ≡ (arrive way p s t c n).answer
    → state_of way (record { column = s; row = t; cut = cut; shifts = shifts; answer = Answer.Level answer; running = running })
    ≡ arrive way p s t c n
state-is way p s t c n cut shifts answer running e f g =
    λ i. record {
      way = sym (arrive-way way p s t c n) i;
      column = sym (arrive-column way p s t c n) i;
      row = sym (arrive-row way p s t c n) i;
      cut = e i;
      shifts = f i;
      answer = g i;
    }

-- and that of a window with no reading
pub unread-state : (way : Way) (p : Frame) (s t : ℕ) (cut : Level) (shifts : ℕ) (sums : Sums) (free : FreeList) → empty p s t ≡ true
    → state_of way (unread s t cut shifts sums free) ≡ arrive way p s t cut.0 shifts
unread-state way p s t cut shifts sums free e = sym (arrive-empty way p s t cut.0 shifts e)

-- and then the window is the visit's own
pub at-visit : (way : Way) (p : Frame) (s t c n : ℕ) (P : ℕ → ℕ → Type 0) (v : Visit) → state_of way v ≡ arrive way p s t c n → P s t →
    P v.column v.row
at-visit way p s t c n P v e h =
    let column : v.column ≡ s = ap (λ (x : State). x.column) e ∙ arrive-column way p s t c n in
    let row : v.row ≡ t = ap (λ (x : State). x.row) e ∙ arrive-row way p s t c n in
    subst (λ (y : ℕ). P v.column y) (sym row) (subst (λ (x : ℕ). P x t) (sym column) h)
