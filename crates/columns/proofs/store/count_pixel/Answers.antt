-- `columns::store::count_pixel` meets its contract: a dead pixel is passed over, the count and the guide sum of any other change. Assumes nothing.
use Rattle.std.proofs.Common.{◌≡◌, ℕ, List, Bool, ◌+◌, ◌*◌, ◌<◌, ◌≤◌, false, length, get_or, set, refl, sym, ◌∙◌, arith}
use Rattle.pixels.specs.Additive.{changed}
use Rattle.columns.specs.Blocks.{Put, Able, block, at_level, pixel_d}
use borrow.Author.Tests.{eq-eqb, ne_eqb}
use Rattle.spec.specs.declared.Plan.{Plan}
use Rattle.spec.specs.Frame.{Frame, frame_of, no_reading, pixel_level, level, dead, guide}
use Rattle.spec.specs.Checks.{Planned}
use Rattle.spec.proofs.Plans.{facts, place-low}
use Rattle.window.proofs.PixelLaws.{level-low, place-small}
use Rattle.columns.proofs.BlockLaws.{in-store, able-first, able-second, asks, count-put, put-dead, put-pixel}
use Rattle.columns.proofs.store.count_pixel.Goals as goal

-- a pixel with a reading
record Alive (p : Frame) (z : Plan) (x y value : ℕ) : Type 0 where
  value-is : value ≡ level p x y
  reads : dead p x y ≡ false
  low : value < z.levels

alive : {b : List ℕ} {z : Plan} {x y value : ℕ} → Planned b z → (x < z.width) × (y < z.height) → value ≡ pixel_level b (y * z.width + x) →
    (value ≡ no_reading → ⊥) → Alive (frame_of b) z x y value
alive {b} {z} {x} {y} {value} pl h e n =
    let at = (facts pl).level_at x y in record {
      value-is = e ∙ at;
      reads = ne_eqb _ no_reading (λ d. n (e ∙ at ∙ d));
      low = rw e (level-low pl (place-low z x y h.0 h.1) (ne_eqb _ no_reading (λ d. n (e ∙ d))));
    }

-- the count's change
counted : {p : Frame} {z : Plan} {x y value at n : ℕ} {xs ys : List ℕ} (add : Bool) (a b : ℕ) → Alive p z x y value → at ≡ value →
    a * z.levels + value < n → n ≤ length xs → Able add z.levels (pixel_d p a b x y) xs →
    ys ≡ set xs (a * z.levels + at) (changed add (get_or xs (a * z.levels + at) 0) 1) →
    Put add z.levels (block a (at_level p (λ u v. 1) x y)) xs ys
counted {p} {z} {x} {y} {value} {at} add a b v e low long able done =
    count-put p x y v.reads (λ u v. 1) add a at 1 (e ∙ v.value-is) refl (omega (arith, v.low)) (rw e (omega arith)) (able-first p x y add a b able) done

pub overflow_mul-q : goal.overflow_mul-q
overflow_mul-q c = let h = c.requires.x_lt_width in omega (arith, place-small c.requires.planned (place-low c.args.plan _ _ h.0 h.1))

pub overflow_add-q : goal.overflow_add-q
overflow_add-q c = let h = c.requires.x_lt_width in omega (arith, place-small c.requires.planned (place-low c.args.plan _ _ h.0 h.1))

pub returns-then-value : goal.returns-then-value
returns-then-value c =
    let at = (facts c.requires.planned).level_at c.args.x c.args.y in
    put-dead _ _ _ _ _ _ _ _ (eq-eqb _ no_reading (sym (c.value_at-value.ensures ∙ at) ∙ c.if-value.true))

pub overflow_mul-a : goal.overflow_mul-a
overflow_mul-a c =
    let v = alive c.requires.planned c.requires.x_lt_width c.value_at-value.ensures c.if-value.false in
    omega (arith, in-store c.args.plan.width c.requires.a_bound.0 v.low)

pub overflow_add-a : goal.overflow_add-a
overflow_add-a c =
    let v = alive c.requires.planned c.requires.x_lt_width c.value_at-value.ensures c.if-value.false in
    omega (arith, in-store c.args.plan.width c.requires.a_bound.0 v.low)

pub overflow_mul-b : goal.overflow_mul-b
overflow_mul-b c =
    let v = alive c.requires.planned c.requires.x_lt_width c.value_at-value.ensures c.if-value.false in
    omega (arith, in-store c.args.plan.width c.requires.a_bound.1 v.low)

pub overflow_add-b : goal.overflow_add-b
overflow_add-b c =
    let v = alive c.requires.planned c.requires.x_lt_width c.value_at-value.ensures c.if-value.false in
    omega (arith, in-store c.args.plan.width c.requires.a_bound.1 v.low)

pub change-requires : goal.change-requires
change-requires c =
    let r = c.requires in
    let v = alive r.planned r.x_lt_width c.value_at-value.ensures c.if-value.false in (
      omega (arith, in-store c.args.plan.width r.a_bound.0 v.low),
      asks _ _ _ v.reads (λ u v. 1) c.args.add c.args.a _ 1 (c.from-at.ensures ∙ v.value-is) refl (omega (arith, v.low))
          (able-first _ _ _ c.args.add c.args.a c.args.b r.able),
    )

pub change-requires-2 : goal.change-requires-2
change-requires-2 c =
    let r = c.requires in
    let v = alive r.planned r.x_lt_width c.value_at-value.ensures c.if-value.false in
    let q = counted c.args.add c.args.a c.args.b v c.from-at.ensures (in-store c.args.plan.width r.a_bound.0 v.low) r.a_bound.2 r.able c.change.ensures in (
      omega (arith, in-store c.args.plan.width r.a_bound.1 v.low, q.len),
      asks _ _ _ v.reads (guide (frame_of c.args.file.now)) c.args.add c.args.b _ _ (c.from-at.ensures ∙ v.value-is)
          (c.from.ensures ∙ c.guide_at-g.ensures ∙ (facts r.planned).guide-at c.args.x c.args.y) (omega (arith, v.low))
          (able-second _ _ _ c.args.add c.args.a c.args.b r.able q),
    )

pub returns : goal.returns
returns c =
    let r = c.requires in
    let v = alive r.planned r.x_lt_width c.value_at-value.ensures c.if-value.false in
    let q = counted c.args.add c.args.a c.args.b v c.from-at.ensures (in-store c.args.plan.width r.a_bound.0 v.low) r.a_bound.2 r.able c.change.ensures in
    put-pixel _ _ _ c.args.add c.args.a c.args.b q
    (count-put _ _ _ v.reads (guide (frame_of c.args.file.now)) c.args.add c.args.b _ _ (c.from-at.ensures ∙ v.value-is)
    (c.from.ensures ∙ c.guide_at-g.ensures ∙ (facts r.planned).guide-at c.args.x c.args.y) (omega (arith, v.low))
    (omega (arith, in-store c.args.plan.width r.a_bound.1 v.low, q.len)) (able-second _ _ _ c.args.add c.args.a c.args.b r.able q)
    c.change-2.ensures)
