-- Document 02's request 9 holds of whatever keeps the promise of its call.
-- Assumes nothing.
use Prim.Native.Nat.{ℕ, zero, suc, ◌+◌, ◌*◌, ◌≤◌, ◌<◌, min}
use mathlib.Core.Path.{◌≡◌, refl, sym, ap, ◌∙◌, subst}
use mathlib.Core.Logic.{◌⊎◌, inl, inr}
use mathlib.Core.List.{List, [], ◌∷◌, ◌++◌, map}
use native.Mathlib.Omega.{arith}
use lib.ListN.{length, get_or, take, drop, get_or-append}
use lib.Seq.{get_or-take, get_or-drop, length-take-le}
use Rattle.std.specs.Prelude.{Ok, Err}
use Rattle.spec.specs.declared.Round.{Round}
use Rattle.spec.specs.declared.Way.TheVariants.{Joint}
use Rattle.spec.specs.Refusal.{accepted, refused, numbered, number, values_of}
use Rattle.spec.proofs.Checks.{not-refused}
use Rattle.spec.specs.Frame.{Frame, frame_of, pixels}
use Rattle.spec.specs.Checks.{verdict}
use Rattle.spec.specs.Walk.{walk_end, walk_answers}
use Rattle.spec.specs.Filter.{serpentine, filtered}
use Rattle.spec.specs.Schedule.{opening, serve, grant, grants}
use Rattle.spec.specs.Cameras.{
  files_in,
  total,
  counts_room,
  words_room,
  pixels_in,
  sizes_of,
  round_of,
  counts_part,
  words_part,
  answers_part,
}
use Rattle.spec.proofs.First.{length-tabulate}
use Rattle.spec.proofs.Limits.{FrameLimits, limits_of}
use Rattle.spec.proofs.Serpentine.{At, visited, visited-is, visited-low, serpentine-at, filtered-walk}
use Rattle.ice_step.specs.declared.Walked.{Walked}
use Rattle.ice_step.specs.Finished.{Lent}
use Rattle.ice.specs.Contract.{Filters}
use Rattle.ice_prefix.specs.Prefix.{Parts}
use Rattle.schedule.proofs.Grants.{grants-add}
use Rattle.schedule.proofs.Fairness as fairness
use Rattle.cameras.specs.Parts.{Servable, AllMade}
use Rattle.cameras.specs.Contract.{outcome_of, AllKept, Shared, Schedules}
use Rattle.cameras.proofs.CallLaws.{BatchAccepted, batch-accepted, sizes-fit, sizes-total, servable-by}
use Rattle.cameras.proofs.EachPart.{part_at, beyond-parts, counts-parts, words-parts, answers-parts, answers-all, file-accepted}
use Rattle.cameras_checks.proofs.Reading.{length-files}
use Rattle.demands.specs.Cameras.{
  SharedOrRefused,
  file_at,
  tally_at,
  begins_at,
  EachPart,
  EachPartGiven,
  AsAlone,
  TalliesLow,
  WithinEight,
  OneList,
  AllGranted,
  Request9,
}

-- ---- demand 1
pub shared-or-refused : SharedOrRefused
shared-or-refused b lengths limits before after (Ok g) h = inl (g, refl, sym h.verdict, h.shared (sym h.verdict))
shared-or-refused b lengths limits before after (Err e) h =
    inr (number e, values_of e, refl, sym h.verdict, h.refused (λ q. not-refused (h.verdict ∙ q)))

-- ---- request 9: what an accepted call has
pub filtered-long : (p : Frame) → length (filtered p) ≡ pixels p.set
unfolding filtered
filtered-long p = length-tabulate _ _

in_frame : (f : List ℕ) (i : ℕ) → i < pixels_in f → i < pixels (frame_of f).set
unfolding frame_of
in_frame f i h = h

module _ (b lengths limits : List ℕ) (before after : Parts) (g : ℕ) (h : Schedules b lengths limits before after (Ok g)) where
  abbrev fs : List (List ℕ)
  fs = files_in lengths b

  outcome : outcome_of b lengths limits before ≡ accepted
  outcome = sym h.verdict

  batch : BatchAccepted b lengths limits before
  batch = batch-accepted b lengths limits before outcome

  servable : Servable b lengths (round_of fs limits).tallies before
  servable = servable-by b lengths limits before batch

  made : AllMade fs (round_of fs limits).tallies before after
  made = (h.shared outcome).made

  enough : length fs ≤ length (round_of fs limits).tallies
  enough = omega (arith, servable.long, servable.few, length-files lengths b)

  each : EachPart fs limits before after
  each =
      let ds = (round_of fs limits).tallies in
      let c = counts-parts fs ds enough in
      let w = words-parts fs ds enough in
      let a = answers-parts fs ds enough batch.files servable.low in
      record {
        counts = λ k l. ap (λ (q : List ℕ). take (counts_room (file_at fs k)) (drop (begins_at counts_room fs k) q)) made.counts
            ∙ part_at counts_room counts_part fs ds before.counts c batch.counts k l;
        words = λ k l. ap (λ (q : List ℕ). take (words_room (file_at fs k)) (drop (begins_at words_room fs k) q)) made.words
            ∙ part_at words_room words_part fs ds before.words w batch.words k l;
        answers = λ k l. ap (λ (q : List ℕ). take (pixels_in (file_at fs k)) (drop (begins_at pixels_in fs k) q)) made.answers
            ∙ part_at pixels_in answers_part fs ds before.answers a batch.answers k l;
        counts_beyond = ap (drop (total (map counts_room fs))) made.counts
            ∙ beyond-parts counts_room counts_part fs ds before.counts c batch.counts;
        words_beyond = ap (drop (total (map words_room fs))) made.words ∙ beyond-parts words_room words_part fs ds before.words w batch.words;
        answers_beyond = ap (drop (total (map pixels_in fs))) made.answers
            ∙ beyond-parts pixels_in answers_part fs ds before.answers a batch.answers;
      }

  low : (k : ℕ) → k < length fs → tally_at fs limits k ≤ pixels_in (file_at fs k)
  low k l = omega (arith, servable.low k l, mapped fs k l)
    where
      mapped : (gs : List (List ℕ)) (j : ℕ) → j < length gs → get_or (map pixels_in gs) j 0 ≡ pixels_in (get_or gs j [])
      mapped [] j q = absurd (omega arith)
      mapped (g ∷ gs) zero q = refl
      mapped (g ∷ gs) (suc j) q = mapped gs j (omega arith)

  module _ (k : ℕ) (l : k < length fs) where
    abbrev f : List ℕ
    f = file_at fs k

    accepts : verdict f ≡ accepted
    accepts = file-accepted fs batch.files k l

    good : FrameLimits (frame_of f)
    good = limits_of f accepts

    -- answer i of the part is the walk's
    walked : (i : ℕ) → i < tally_at fs limits k
        → get_or after.answers (begins_at pixels_in fs k + i) 0 ≡ get_or (walk_answers (frame_of f) 0 0 (serpentine (frame_of f).set)) i 0
    unfolding answers_part
    walked i q =
        let w = walk_answers (frame_of f) 0 0 (serpentine (frame_of f).set) in
        let d = tally_at fs limits k in
        let o = begins_at pixels_in fs k in
        sym (get_or-take (pixels_in f) (drop o after.answers) i 0 (omega (arith, low k l)) ∙ get_or-drop o after.answers i 0)
        ∙ ap (λ (xs : List ℕ). get_or xs i 0) (each.answers k l)
        ∙ get_or-append (take d w) _ 0 i (omega (arith, length-take-le d w (omega (arith, low k l, answers-all f accepts))))
        ∙ get_or-take d w i 0 q

    -- and the filter's, at the pixel where the walk is then
    filter-there : (i : ℕ) → i < pixels_in f → (new old : List ℕ) → new ≡ filtered (frame_of f) ++ drop (pixels (frame_of f).set) old
        → let x = walk_end Joint (frame_of f) 0 0 (take i (serpentine (frame_of f).set)) in
        get_or new (x.row * (frame_of f).set.width + x.column) 0 ≡ get_or (walk_answers (frame_of f) 0 0 (serpentine (frame_of f).set)) i 0
    filter-there i q new old e =
        let p = frame_of f in
        let w = p.set.width in
        let n = in_frame f i q in
        let at = serpentine-at Joint good i n in
        let x = walk_end Joint p 0 0 (take i (serpentine p.set)) in
        let place : x.row * w + x.column ≡ visited w i = rw (at.row, at.column) (sym (visited-is w good.sound.width_low i)) in
        ap (λ (xs : List ℕ). get_or xs (x.row * w + x.column) 0) e
        ∙ ap (λ (j : ℕ). get_or (filtered p ++ drop (pixels p.set) old) j 0) place
        ∙ get_or-append (filtered p) (drop (pixels p.set) old) 0 (visited w i)
        (omega (arith, visited-low p.set good.sound.width_low i n, filtered-long p))
        ∙ filtered-walk good i n

each_part : EachPartGiven
each_part b lengths limits before after g h = each b lengths limits before after g h

as-alone : AsAlone
as-alone b lengths limits before after g h k l way before' after' old new w f i q =
    let e = f.filtered (sym f.verdict) in
    walked b lengths limits before after g h k l i q
    ∙ sym (filter-there b lengths limits before after g h k l i (omega (arith, low b lengths limits before after g h k l)) new old e.answers)

within-eight : WithinEight
within-eight sizes m k l u =
    let r = fairness.fair sizes (grants sizes m opening) k l u in
    (r.0, r.1, subst (λ (x : Round). grant sizes x ≡ serve k x) (sym (grants-add sizes m r.0 opening)) r.2)

all-granted : AllGranted
unfolding round_of
all-granted b lengths limits before after g h =
    let fs = files_in lengths b in
    let a = batch b lengths limits before after g h in
    (h.shared (outcome b lengths limits before after g h)).grants
    ∙ fairness.all-granted (sizes_of fs) (sizes-fit fs (omega (arith, length-files lengths b, a.good.few)) a.files) limits
    ∙ ap (min (total limits)) (sizes-total fs)

pub request-9 : Request9
request-9 =
    record {
      parts = each_part;
      alone = as-alone;
      tallies = λ b lengths limits before after g h. low b lengths limits before after g h;
      fair = within-eight;
      one_list = λ sizes limits. fairness.periods-grants sizes limits opening;
      granted = all-granted;
    }
