-- Zeros, then the window's columns. Assumes nothing.
use Rattle.std.proofs.Common.{◌≡◌, ℕ, ◌*◌, List, ◌++◌, length, take, drop, sym, ap, ◌∙◌, arith}
use Rattle.std.proofs.Math.ListN.{replicate}
use Rattle.std.proofs.Math.Seq.{length-take-le}
use Rattle.spec.specs.declared.Plan.{Plan}
use Rattle.joint_pixel.specs.Store.{words_per}
use Rattle.joint.specs.Window.{Fresh}
use Rattle.window.proofs.PixelLaws.{plan-limits}
use Rattle.joint.proofs.WindowLaws.{plan-cells, plan-words}
use Rattle.joint.proofs.StartLaws.{wiped, words-even, cells-small, words_small, build-asks, built}
use Rattle.joint.proofs.start.build.Goals as goal

pub overflow_mul-plan : goal.overflow_mul-plan
overflow_mul-plan c = omega (arith, cells-small c.requires.pictured)

pub slice_bounds-fill-end : goal.slice_bounds-fill-end
slice_bounds-fill-end c = omega (arith, plan-cells c.requires.pictured, c.requires.cells)

pub slice_bounds-fill-end-2 : goal.slice_bounds-fill-end-2
slice_bounds-fill-end-2 c =
    sym (length-take-le _ c.args.counts.now (omega (arith, plan-cells c.requires.pictured, c.requires.cells)))

pub overflow_mul-plan-2 : goal.overflow_mul-plan-2
overflow_mul-plan-2 c = rw (words-even c.args.plan.guides c.div_ceil.result c.div_ceil.ensures) (omega (arith, words_small c.requires.pictured))

pub slice_bounds-fill-end-3 : goal.slice_bounds-fill-end-3
slice_bounds-fill-end-3 c =
    rw (words-even c.args.plan.guides c.div_ceil.result c.div_ceil.ensures) (omega (arith, plan-words c.requires.pictured, c.requires.words))

pub slice_bounds-fill-end-4 : goal.slice_bounds-fill-end-4
slice_bounds-fill-end-4 c =
    rw (words-even c.args.plan.guides c.div_ceil.result c.div_ceil.ensures)
    (sym (length-take-le _ c.args.words.now (omega (arith, plan-words c.requires.pictured, c.requires.words))))

pub span_of-n-requires : goal.span_of-n-requires
span_of-n-requires c = let l = plan-limits c.requires.pictured in (c.requires.column, l.width, l.radius)

-- both stores begin with zeros
zeros : {b vs xs ws ys zs : List ℕ} {z : Plan} {s t : ℕ} (d : ℕ) → Fresh b vs z s t xs ws → d ≡ words_per z.guides →
    ys ≡ replicate (length (take (z.levels * z.guides) xs)) 0 → zs ≡ replicate (length (take (z.levels * d) ws)) 0 →
    (ys ++ drop (z.levels * z.guides) xs ≡ replicate (z.levels * z.guides) 0 ++ drop (z.levels * z.guides) xs) ×
    (zs ++ drop (z.levels * d) ws ≡ replicate (z.levels * words_per z.guides) 0 ++ drop (z.levels * words_per z.guides) ws)
zeros {xs = xs} {ws} {z = z} d fr e ey ez = (
  wiped xs _ (omega (arith, plan-cells fr.pictured, fr.cells)) ey,
  wiped ws _ (rw e (omega (arith, plan-words fr.pictured, fr.words))) ez
      ∙ ap (λ (k : ℕ). replicate (z.levels * k) 0 ++ drop (z.levels * k) ws) e,
)

pub fill-requires-3 : goal.fill-requires-3
fill-requires-3 c =
    let o = zeros c.div_ceil.result c.requires (words-even c.args.plan.guides c.div_ceil.result c.div_ceil.ensures)
    (c.fill.ensures.after (λ y e. e)) (c.fill-2.ensures.after (λ y e. e)) in
    let a = build-asks c.requires o.0 o.1 c.saturating_sub-x.ensures c.span_of-n.ensures in
    record { pictured = a.0; filled = a.1 }

pub returns : goal.returns
returns c =
    let o = zeros c.div_ceil.result c.requires (words-even c.args.plan.guides c.div_ceil.result c.div_ceil.ensures)
    (c.fill.ensures.after (λ y e. e)) (c.fill-2.ensures.after (λ y e. e)) in
    built c.requires o.0 o.1 c.saturating_sub-x.ensures c.span_of-n.ensures (λ j. (c.type_inv.words j).fits) c.fill-3.ensures
