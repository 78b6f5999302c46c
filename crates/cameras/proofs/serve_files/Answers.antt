-- `serve_files` meets its contract. Assumes nothing.
use Prim.Native.Nat.{ℕ, ◌≤◌}
use mathlib.Core.Path.{refl, sym, ap, ◌∙◌, subst}
use mathlib.Core.List.{List}
use lib.ListN.{get_or}
use Rattle.spec.specs.Checks.{verdict}
use Rattle.spec.specs.Cameras.{pixels_in}
use Rattle.ice_prefix.specs.Prefix.{parts}
use Rattle.cameras_checks.proofs.Reading.{part-is}
use Rattle.cameras.specs.Parts.{RoomFrom, PartMade}
use Rattle.cameras.proofs.ServeLaws.{next-accepted, next_low, next-room, serving-more, serving-end}
use Rattle.cameras.proofs.serve_files.Goals as goal

pub serve_file-place-requires-clause-file_value : goal.serve_file-place-requires-clause-file_value
serve_file-place-requires-clause-file_value c =
    let l = c.loop-i in
    let b = c.args.files.now in
    let ns = c.args.lengths.now in
    let old = parts c.args.counts.now c.args.words.now c.args.answers.now in
    let e = part-is b ns l.i l.at _ refl in (
      ap verdict e ∙ next-accepted b ns c.args.tallies old c.requires _ l.place l.at l.i l.invariant c.loop-i-test.true,
      subst (λ (q : List ℕ). get_or c.args.tallies l.i 0 ≤ pixels_in q) (sym e)
          (next_low b ns c.args.tallies old c.requires _ l.place l.at l.i l.invariant c.loop-i-test.true),
    )

pub serve_file-place-requires-clause-room_from : goal.serve_file-place-requires-clause-room_from
serve_file-place-requires-clause-room_from c =
    let l = c.loop-i in
    let b = c.args.files.now in
    let ns = c.args.lengths.now in
    let old = parts c.args.counts.now c.args.words.now c.args.answers.now in
    subst (λ (q : List ℕ). RoomFrom q l.place (parts l.counts l.words l.answers)) (sym (part-is b ns l.i l.at _ refl))
    (next-room b ns c.args.tallies old c.requires _ l.place l.at l.i l.invariant c.loop-i-test.true)

pub loop-i-preserved : goal.loop-i-preserved
loop-i-preserved c =
    let l = c.loop-i in
    let b = c.args.files.now in
    let ns = c.args.lengths.now in
    let old = parts c.args.counts.now c.args.words.now c.args.answers.now in
    let f = c.serve_file-place in
    let new = parts f.new.counts f.new.words f.new.answers in
    let e = part-is b ns l.i l.at _ refl in
    serving-more b ns c.args.tallies old c.requires (parts l.counts l.words l.answers) l.place l.at l.i l.invariant c.loop-i-test.true _ f.result
    (subst (λ (q : List ℕ). PartMade q (get_or c.args.tallies l.i 0) l.place (parts l.counts l.words l.answers) new f.result) e f.ensures)
    f.auto.counts f.auto.words f.auto.answers

pub returns : goal.returns
returns c = let l = c.loop-i in serving-end _ _ _ _ _ l.place l.at l.i l.invariant c.loop-i-test.false
