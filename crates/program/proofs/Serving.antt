-- The stores of the program are long enough: no filter that it calls is refused.
-- Assumes nothing.
use Prim.Native.Nat.{ℕ, ◌+◌, ◌*◌, ◌≤◌}
use mathlib.Core.Path.{◌≡◌, refl, ap, ap₂, ◌∙◌}
use mathlib.Core.Bool.{Bool, false, ◌||◌}
use mathlib.Core.Logic.{inl, inr}
use mathlib.Core.List.{List}
use native.Mathlib.Nat.{mul-le-mul}
use native.Mathlib.Omega.{arith}
use lib.Dec.{ltb}
use borrow.Author.Tests.{le-ltb, eq-eqb}
use Rattle.spec.specs.declared.Settings.{Settings}
use Rattle.spec.specs.declared.Room.{Room}
use Rattle.spec.specs.declared.Plan.{Plan}
use Rattle.std.specs.Prelude.{Result, Ok, Err}
use Rattle.std.specs.Result.{IsOk}
use Rattle.spec.specs.declared.Refusal.{Refusal}
use Rattle.spec.proofs.Checks.{not-refused}
use Rattle.spec.specs.Refusal.{Outcome, accepted, ◌▷◌, refuse, numbered}
use Rattle.spec.specs.Frame.{frame_of, settings_of, pixels}
use Rattle.spec.specs.Joint.{words_per_level}
use Rattle.spec.specs.Chain.{node_count}
use Rattle.spec.specs.Coarse.{block_count}
use Rattle.spec.specs.Calls.{way_of, joint_room, numbers_room, room_of, bad_way, lacks, short, filter_checks, filter_outcome}
use Rattle.spec.proofs.Plans.{facts}
use Rattle.program_checks.specs.Admitted.{Admitted}
use Rattle.program.specs.Answer.{Serving}
use Rattle.program_checks.proofs.Admission.{pixels-few}

-- the settings that the program takes
record Small (k : Settings) : Type 0 where
  pub width : k.width ≤ 64
  pub levels : k.levels ≤ 64
  pub guides : k.guides ≤ 64
  pub radius : k.radius ≤ 15
  pub area : pixels k ≤ 8192

small : {b : List ℕ} {z : Plan} → Admitted b z → Small (settings_of b)
unfolding frame_of
small {b} {z} a =
    let f = facts a.planned in
    record {
      width = omega (arith, f.width, a.width);
      levels = omega (arith, f.levels, a.levels);
      guides = omega (arith, f.guides, a.guides);
      radius = f.limits.sound.radius_high;
      area = pixels-few a;
    }

kind-of : {b : List ℕ} {z : Plan} → Admitted b z → z.kind ≡ (settings_of b).kind
unfolding frame_of
kind-of a = (facts a.planned).kind

-- the stores that the program lends
pub record Lent (have : Room) (out : ℕ) : Type 0 where
  pub counts : have.counts ≡ 4096
  pub words : have.words ≡ 64
  pub numbers : have.numbers ≡ 8320
  pub summary : have.summary ≡ 4
  pub plane : out ≡ 8192

module _ (k : Settings) (s : Small k) (have : Room) (out : ℕ) (l : Lent have out) where
  holds : (need : Room) → need.counts ≤ 4096 → need.words ≤ 64 → need.numbers ≤ 8320 → need.summary ≤ 4 →
      (lacks need have || ltb out (pixels k)) ≡ false
  unfolding lacks
  holds need a b c d =
      rw (
        le-ltb have.counts need.counts (omega (arith, a, l.counts)),
        le-ltb have.words need.words (omega (arith, b, l.words)),
        le-ltb have.numbers need.numbers (omega (arith, c, l.numbers)),
        le-ltb have.summary need.summary (omega (arith, d, l.summary)),
        le-ltb out (pixels k) (omega (arith, s.area, l.plane)),
      )

  joint-fits : (blocks : ℕ) → blocks ≤ 4 → (lacks (joint_room k blocks) have || ltb out (pixels k)) ≡ false
  joint-fits blocks few =
      let c : k.levels * k.guides ≤ 64 * 64 = mul-le-mul {n₁ = k.levels} {m₁ = k.guides} {n₂ = 64} {m₂ = 64} s.levels s.guides in
      let w : k.levels * words_per_level k ≤ 64 * 1 =
      mul-le-mul {n₁ = k.levels} {m₁ = words_per_level k} {n₂ = 64} {m₂ = 1} s.levels (omega (arith, s.guides)) in
      holds (joint_room k blocks) c w (omega arith) few

  numbers_fit : (n : ℕ) → n ≤ 8320 → (lacks (numbers_room n) have || ltb out (pixels k)) ≡ false
  numbers_fit n few = holds (numbers_room n) (omega arith) (omega arith) few (omega arith)

  columns-few : 2 * (k.width * k.levels) + 2 * k.levels ≤ 8320
  columns-few =
      let c : k.width * k.levels ≤ 64 * 64 = mul-le-mul {n₁ = k.width} {m₁ = k.levels} {n₂ = 64} {m₂ = 64} s.width s.levels in
      omega (arith, c, s.levels)

  chain-few : 1 + 4 * node_count k ≤ 8320
  chain-few =
      let d : 2 * k.radius + 1 ≤ 31 = omega (arith, s.radius) in
      let c : node_count k ≤ 31 * 31 = mul-le-mul {n₁ = 2 * k.radius + 1} {m₁ = 2 * k.radius + 1} {n₂ = 31} {m₂ = 31} d d in
      omega (arith, c)

  -- no check of the filter's own fires
  none-fires : (way : ℕ) → bad_way k way ≡ false → short k way have out (pixels k) ≡ false → filter_checks k way have out ≡ accepted
  unfolding filter_checks
  none-fires way b f = ap₂ (λ (x y : Bool). refuse 8 x ▷ refuse 11 y) b f

  serves : (way : ℕ) → Serving way k.kind → filter_checks k way have out ≡ accepted
  unfolding bad_way short way_of room_of
  serves way (inl (inl e)) = rw e (none-fires 1 refl (joint-fits 0 (omega arith)))
  serves way (inl (inr e)) = rw e (none-fires 4 refl (joint-fits (block_count k) (omega (arith, s.levels))))
  serves way (inr (inl e, q)) = rw e (none-fires 2 (rw (eq-eqb k.kind 2 q)) (numbers_fit _ columns-few))
  serves way (inr (inr e, q)) = rw e (none-fires 3 (rw (eq-eqb k.kind 2 q)) (numbers_fit _ chain-few))

pub filter_passes : {b : List ℕ} {z : Plan} (way : ℕ) (have : Room) (out : ℕ) → Admitted b z → Serving way z.kind → Lent have out →
    filter_outcome b way have out ≡ accepted
unfolding filter_outcome
filter_passes {b} {z} way have out a s l =
    ap (λ (o : Outcome). o ▷ filter_checks (settings_of b) way have out) a.planned.accepts
    ∙ serves (settings_of b) (small a) have out l way (rw (kind-of a) at s)

-- a call that is accepted gives a value
pub is_ok : {A : Type 0} (r : Result A Refusal) → numbered r ≡ accepted → IsOk r
is_ok (Ok x) e = refl
is_ok (Err r) e = absurd (not-refused e)
