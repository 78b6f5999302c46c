-- Assumes nothing.
use Rattle.std.proofs.Common.{Bool, ◌≡◌, ℕ, ◌<◌, List, get_or, set, ap, pos, to_z, of_z, arith, ◌∙◌}
use Rattle.std.proofs.lemmas.Int.{ints}
use mir.Syntax.{w16}
use Rattle.pixels.specs.declared.Pixel.{Pixel}
use Rattle.pixels.specs.Pixels.{count_of, guide_in}
use Rattle.joint.proofs.PixelLaws.{counts-none, takes, counts-next, box-none, cell_room, box-next}
use Rattle.joint.specs.List.{Countable}
use Rattle.joint.proofs.list.change_pixels.Goals as goal

pub loop-pixel-init : goal.loop-pixel-init
loop-pixel-init c = record { counts = λ a. counts-none a; box = box-none _ _ _ _ }

pub change_pixel-requires-clause-fits : goal.change_pixel-requires-clause-fits
change_pixel-requires-clause-fits c =
    rw c.level-level.ensures (takes c.requires.0 c.loop-pixel-test.true (c.loop-pixel.invariant.counts c.requires.0))

-- a turn's guide is below 256, and its cell of the box has room
small : {w : Bool} {m : ℕ} {p : List Pixel} {xs ws : List ℕ} → Countable w m p xs ws → (k : ℕ) → k < count_of p → guide_in p k < 256
small a k h = omega (arith, a.below.guide k h, a.guides_high)

pub side_changed-requires : goal.side_changed-requires
side_changed-requires c =
    let l = small c.requires.0 _ c.loop-pixel-test.true in
    let room = cell_room c.args.enters c.args.cut.0 c.args.pixels.now c.requires.1 c.loop-pixel-test.true l c.loop-pixel.invariant.box in
    omega (arith, ints, room)

pub loop-pixel-preserved : goal.loop-pixel-preserved
loop-pixel-preserved c =
    let p = c.args.pixels.now in
    let k = c.loop-pixel.pixel-index in
    let l = small c.requires.0 k c.loop-pixel-test.true in
    let x = get_or c.loop-pixel.balance_box (guide_in p k) (pos 0) in
    let room = cell_room c.args.enters c.args.cut.0 p c.requires.1 c.loop-pixel-test.true l c.loop-pixel.invariant.box in
    let here : to_z w16 (of_z w16 x) ≡ x = omega (arith, ints, room) in
    let stored : to_z w16 (of_z w16 c.side_changed.result) ≡ c.side_changed.result = omega (arith, ints, c.side_changed.type_inv) in
    record {
      counts = λ a. counts-next a c.loop-pixel-test.true (c.loop-pixel.invariant.counts a)
          (rw c.level-level.ensures at c.change_pixel.ensures.counts_after) (rw c.level-level.ensures at c.change_pixel.ensures.words_after);
      box = box-next c.args.enters c.args.cut.0 p c.requires.1 c.loop-pixel-test.true l c.loop-pixel.invariant.box
          (ap (set c.loop-pixel.balance_box (guide_in p k)) (stored ∙ rw (c.level-level.ensures, here) at c.side_changed.ensures));
    }
