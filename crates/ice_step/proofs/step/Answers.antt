-- `ice_step::step` meets its contract: a move to a neighbour, or a mark. Assumes nothing.
use mathlib.Core.Path.{sym, refl}
use Rattle.ice_step.proofs.Laws.{settings-limits-in, move-adjacent, visited-moves, visited-stays}
use Rattle.ice_step.proofs.step.Goals as goal

pub next-requires-clause-settings_limits : goal.next-requires-clause-settings_limits
next-requires-clause-settings_limits c = settings-limits-in c.requires.pictured.0

pub slide-requires-clause-adjacent : goal.slide-requires-clause-adjacent
slide-requires-clause-adjacent c =
    let on = c.requires.within in move-adjacent _ _ _ _ _ _ on.column on.row (sym c.in-To.ensures)

pub returns-in-To : goal.returns-in-To
returns-in-To c = visited-moves _ c.requires.pictured.0 c.args.visit _ _ _ _ _ _ _ _ (sym c.in-To.ensures) c.slide.ensures

pub returns-in-Nowhere : goal.returns-in-Nowhere
returns-in-Nowhere c =
    let h = c.requires.at_window in
    visited-stays _ c.requires.pictured.0 c.args.visit _ _ _ _ _ _ (sym c.in-Nowhere.ensures)
    (record { holds = h.holds; balance-box = h.balance-box; carried = h.carried }) refl
