-- The own weights add up to 0, or they do not.
use Rattle.std.proofs.Common.{arith, rules, ◌≡◌, ◌∙◌, pos, sym, ap, of_z, w64, ℕ}
use Rattle.std.proofs.lemmas.List.{length-replicate}
use Rattle.std.proofs.lemmas.Int.{ints}
use Rattle.spec.specs.Frame.{frame_of}
use Rattle.spec.proofs.Plans.{facts, pixel-of}
use Rattle.spec.proofs.Own.{total-weightless, total-weighs}
use Rattle.window.proofs.PixelLaws.{levels_high}
use Rattle.joint_search.proofs.WindowLaws.{own-weighs, ones-weigh}
use Rattle.joint_rows.proofs.RowLaws.{built-weighs}
use Rattle.balance.proofs.BalanceLaws.{row-formula, by_total}
use Rattle.balance.proofs.ones_if_hollow.Goals as goal

pub returns-then-plan-eq0 : goal.returns-then-plan-eq0
returns-then-plan-eq0 c =
    let a = c.requires.planned in
    let full = built-weighs a.0 a.2 a.3 a.1 c.if-plan-eq0.true in
    (sym full, own-weighs (frame_of c.args.file.now) c.args.s c.args.t full c.requires.row_own.0, search rules)

pub overflow_sub-last : goal.overflow_sub-last
overflow_sub-last c = let f = facts c.requires.planned.0 in omega (arith, f.limits.sound.levels_low)

pub overflow_cast-last : goal.overflow_cast-last
overflow_cast-last c = let high = levels_high c.requires.planned.0 in omega arith

-- at the last level the balance is the sum of the own weights
pub returns-then-total-ne0 : goal.returns-then-total-ne0
returns-then-total-ne0 c =
    let a = c.requires.planned in
    let f = facts a.0 in
    let total = c.window_balance-total.ensures ∙ by_total (pixel-of a.0 a.2 a.3) (row-formula c.requires.row_own.0) _ (omega arith) in
    let full = total-weighs (frame_of c.args.file.now) c.args.s c.args.t (λ z. c.if-total-ne0.true (ap (of_z w64) (total ∙ z))) in
    (sym full, own-weighs (frame_of c.args.file.now) c.args.s c.args.t full c.requires.row_own.0, search rules)

pub returns : goal.returns
returns c =
    let a = c.requires.planned in
    let f = facts a.0 in
    let total = c.window_balance-total.ensures ∙ by_total (pixel-of a.0 a.2 a.3) (row-formula c.requires.row_own.0) _ (omega arith) in
    let zero : c.window_balance-total.result ≡ pos 0 = grind (arith, ints) in
    let hollow = total-weightless (frame_of c.args.file.now) c.args.s c.args.t c.requires.row_own.1 (sym total ∙ zero) in
    (sym hollow, ones-weigh (frame_of c.args.file.now) c.args.s c.args.t f.limits.sound.guides_high hollow, length-replicate {A = ℕ} 256 1)
