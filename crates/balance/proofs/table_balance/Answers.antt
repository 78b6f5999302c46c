-- By the own weights, or by ones.
use Rattle.std.proofs.Common.{arith, rules, ◌≡◌, ◌∙◌, sym, ap, false, of_z, w64}
use Rattle.std.proofs.lemmas.Int.{to_z-of_z}
use Rattle.spec.specs.Frame.{frame_of}
use Rattle.spec.specs.Weight.{weightless}
use Rattle.spec.proofs.Plans.{kind-of, pixel-of}
use Rattle.window.proofs.PixelLaws.{place-small}
use Rattle.joint_rows.proofs.RowLaws.{centre-place, centre-low, row-weighs-own}
use Rattle.balance.proofs.BalanceLaws.{row-formula, by-balance, by-some, by-own}
use Rattle.balance.proofs.table_balance.Goals as goal
use Rattle.balance.proofs.table_balance.Goals.{else-own-eq0-via-then-own-eq0+else-ones_if_hollow, else-own-eq0-via-else-own-eq0}

pub overflow_mul-t : goal.overflow_mul-t
overflow_mul-t c = let a = c.requires.planned in omega (arith, place-small a.0 (centre-place a.0 a.2 a.3))

pub overflow_add-t : goal.overflow_add-t
overflow_add-t c = let a = c.requires.planned in omega (arith, place-small a.0 (centre-place a.0 a.2 a.3))

pub table_row-requires : goal.table_row-requires
table_row-requires c = let a = c.requires.planned in
    (a.0, centre-low a.0 a.2 a.3 c.guide_at-centre.ensures)

pub window_balance-own-requires : goal.window_balance-own-requires
window_balance-own-requires c =
    let a = c.requires.planned in
    let own = row-weighs-own a.0 a.2 a.3 c.guide_at-centre.ensures a.1 c.table_row.ensures in
    record { planned = a.0; column = a.2; row = a.3; fits = (row-formula own).fits }

pub ones_if_hollow-requires-clause-row_own : goal.ones_if_hollow-requires-clause-row_own
ones_if_hollow-requires-clause-row_own c =
    let a = c.requires.planned in
    (row-weighs-own a.0 a.2 a.3 c.guide_at-centre.ensures a.1 c.table_row.ensures, c.requires.t_value)

pub returns-then-ones_if_hollow : goal.returns-then-ones_if_hollow
returns-then-ones_if_hollow c =
    let a = c.requires.planned in
    to_z-of_z w64 _ (search rules) ∙ c.window_balance.ensures ∙ by-balance (pixel-of a.0 a.2 a.3) (row-formula c.ones_if_hollow.ensures.1) c.args.top.0

-- the own weights balance to 0 at each level where the window is hollow, and else as the window does
pub returns : goal.returns
returns c =
    let a = c.requires.planned in
    let pixel = pixel-of a.0 a.2 a.3 in
    let own = row-formula (row-weighs-own a.0 a.2 a.3 c.guide_at-centre.ensures a.1 c.table_row.ensures) in
    let full : weightless (frame_of c.args.file.now) c.args.s c.args.t ≡ false = elim c.else-own-eq0.branch [
      | else-own-eq0-via-then-own-eq0+else-ones_if_hollow w ↦ sym w.ones_if_hollow.ensures.0 ∙ w.if-ones_if_hollow.false
      | else-own-eq0-via-else-own-eq0 w ↦
          by-some pixel own (kind-of a.0 a.1) c.args.top.0 (λ z. w.if-own-eq0.false (ap (of_z w64) (c.window_balance-own.ensures ∙ z)))
    ] in
    to_z-of_z w64 _ (search rules) ∙ c.window_balance-own.ensures ∙ by-own pixel own full c.args.top.0
