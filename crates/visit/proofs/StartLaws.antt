-- A walk's first window of kind 2: from cut point 0 the shift count is the answer whether the window is monotone or not, so that it is searched from
-- level 0 and asks for no tally.
-- Assumes nothing.
use Prim.Native.Nat.{ℕ, ◌+◌, ◌<◌}
use mathlib.Core.Path.{◌≡◌, refl, sym, ap, subst, ◌∙◌}
use mathlib.Core.Bool.{Bool, true, false, true≢false}
use mathlib.Core.List.{List}
use native.Mathlib.Omega.{arith}
use Rattle.spec.specs.declared.Plan.{Plan}
use Rattle.spec.specs.declared.Way.{Way}
use Rattle.std.specs.Prelude.{if◌then◌else◌}
use Rattle.spec.specs.Base.{distance}
use Rattle.spec.specs.Frame.{frame_of}
use Rattle.spec.specs.Checks.{Planned}
use Rattle.spec.specs.Window.{empty}
use Rattle.spec.specs.Walk.{by_blocks}
use Rattle.spec.proofs.Plans.{facts}
use Rattle.window_weights.specs.declared.coefficients.Coefficients.{Coefficients}
use Rattle.window_weights.specs.Coefficients.{WeighsAt, CoefficientsSmall, ends_not_negative}
use Rattle.level_search.specs.declared.Tally.{Tally}
use Rattle.level_search.specs.declared.search.Found.{Found}
use Rattle.level_search.specs.Search.{FoundAt}
use Rattle.levels.specs.Answer.{Profiled, Answerable, FromCut, Answered}
use Rattle.levels.proofs.AnswerLaws.{answerable, answered-at}

from_zero : (m : Bool) (n : ℕ) → n ≡ (if m then distance n 0 else n)
from_zero true n = omega arith
from_zero false n = refl

pub levels-some : {b : List ℕ} {z : Plan} → Planned b z → 0 < z.levels
levels-some pl = let f = facts pl in subst (λ (n : ℕ). 0 < n) (sym f.levels) (omega (arith, f.limits.sound.levels_low))

module _ {b : List ℕ} {z : Plan} (pl : Planned b z) (two : z.kind ≡ 2) {s t : ℕ} (hs : s < z.width) (ht : t < z.height) {k : Coefficients}
    (w : WeighsAt (frame_of b) s t k × CoefficientsSmall k) {counts sums : List ℕ} (v : Profiled (frame_of b) s t counts sums) where
  pub start-answerable : Answerable k z.guides false 0 counts sums
  start-answerable =
      let h = answerable pl two hs ht w v {m = ends_not_negative k z.guides} refl {n = 0} (omega arith) in
      record {
        search = h.search;
        heaviest = h.heaviest;
        guides_some = h.guides_some;
        guides_high = h.guides_high;
        shifts = h.shifts;
        rising = λ e. absurd (true≢false (sym e));
      }

  -- no tally is asked for
  pub start-from : (a : Tally) → FromCut false 0 a counts sums
  start-from a = record { cut = omega (arith, v.count_long, (facts pl).levels, levels-some pl); tally = λ e. absurd (true≢false (sym e)) }

  -- by a way that counts levels from the cut point
  pub start-answered : (way : Way) → by_blocks way ≡ false → empty (frame_of b) s t ≡ false → {f : Found} → FoundAt k counts sums f
      → f.shifts ≡ 0 + f.level.0
      → Answered way (frame_of b) s t 0 0 f
  start-answered way eb r {f} e sh =
      answered-at pl two hs ht w v {m = ends_not_negative k z.guides} refl way r e
      (rw eb (sh ∙ ap (λ (n : ℕ). 0 + n) (from_zero (ends_not_negative k z.guides) f.level.0)))
