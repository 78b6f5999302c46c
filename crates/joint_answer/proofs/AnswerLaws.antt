-- The row that a window is counted with: its own weights, or ones. By a window's counts it gives the frame's weights.
-- Assumes nothing.
use mathlib.Core.Path.{◌≡◌, refl, ap}
use mathlib.Core.Bool.{Bool, true, false}
use mathlib.Core.List.{List}
use Prim.Native.Nat.{ℕ}
use lib.ListN.{replicate}
use Rattle.spec.specs.declared.Plan.{Plan}
use Rattle.std.specs.Prelude.{if◌then◌else◌}
use Rattle.spec.specs.Frame.{frame_with}
use Rattle.spec.specs.Window.{empty}
use Rattle.spec.specs.Weight.{weightless}
use Rattle.joint_search.specs.declared.Sizes.{Sizes}
use Rattle.joint_search.specs.Search.{weightless_in}
use Rattle.joint_search.specs.Window.{Counted, RowOwn, RowWeighs, sizes_of}
use Rattle.joint_search.proofs.WindowLaws.{own-weighs, ones-weigh, spot, weightless-is}
use Rattle.joint_answer.specs.Answer.{counted_row}

-- ---- the two cases
module _ (sizes : Sizes) (cs row : List ℕ) where
  pub counted-ones : true ≡ weightless_in sizes cs row → replicate 256 1 ≡ counted_row sizes cs row
  unfolding counted_row
  counted-ones e = ap (λ (b : Bool). if b then replicate 256 1 else row) e

  pub counted-own : false ≡ weightless_in sizes cs row → row ≡ counted_row sizes cs row
  unfolding counted_row
  counted-own e = ap (λ (b : Bool). if b then replicate 256 1 else row) e

-- ---- of a window with a reading
pub counted-weighs : {b vs : List ℕ} {plan : Plan} {s t : ℕ} {cs ws row : List ℕ} → Counted b vs plan s t cs ws → empty (frame_with b vs) s t ≡ false
    → RowOwn (frame_with b vs) s t row → RowWeighs (frame_with b vs) s t (counted_row (sizes_of plan) cs row)
unfolding counted_row
counted-weighs {b} {vs} {plan} {s} {t} {cs} {ws} {row} st r own =
    rw (weightless-is st r own) (go (weightless (frame_with b vs) s t) refl)
  where
    go : (v : Bool) → weightless (frame_with b vs) s t ≡ v → RowWeighs (frame_with b vs) s t (if v then replicate 256 1 else row)
    go true e = ones-weigh (frame_with b vs) s t (spot st).good.sound.guides_high e
    go false e = own-weighs (frame_with b vs) s t e own
