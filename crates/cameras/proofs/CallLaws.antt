-- From what the checks, the schedule and the parts say to the contract of the call.
-- Assumes nothing.
use Prim.Native.Nat.{ℕ, zero, suc, ◌+◌, ◌-◌, ◌≤◌, ◌<◌}
use mathlib.Core.Path.{◌≡◌, refl, sym, ap, ◌∙◌, subst}
use mathlib.Core.Bool.{◌||◌}
use mathlib.Core.List.{List, [], ◌∷◌, ◌++◌, map}
use native.Mathlib.Decide.{dec_lt}
use native.Mathlib.Omega.{arith}
use lib.Dec.{ltb}
use lib.ListN.{length, get_or, replicate, length-append, length-map, length-replicate, get_or-append}
use lib.Seq.{get_or-append-add}
use borrow.Author.Tests.{ltb-false}
use Rattle.std.specs.Prelude.{Ok}
use Rattle.spec.specs.declared.Round.{Round}
use Rattle.spec.specs.Refusal.{accepted, ◌▷◌, refuse}
use Rattle.spec.specs.Frame.{frame_of}
use Rattle.spec.specs.Checks.{verdict}
use Rattle.spec.specs.Schedule.{opening, periods}
use Rattle.spec.specs.Cameras.{files_in, total, counts_room, words_room, pixels_in, sizes_of, round_of, bad_batch, verdicts, short_of, cameras_outcome}
use Rattle.spec.proofs.Checks.{both-accepted, not-fired, neither}
use Rattle.spec.proofs.Limits.{limits_of}
use Rattle.schedule.specs.Tallies.{SizesFit}
use Rattle.schedule.proofs.Grants.{total-zeros, tallies-opening, tallies-periods}
use Rattle.ice_prefix.specs.Prefix.{Parts}
use Rattle.cameras_checks.proofs.Batch.{BatchGood, batch-good}
use Rattle.cameras_checks.proofs.Reading.{length-files}
use Rattle.cameras.specs.Parts.{Servable, AllMade}
use Rattle.cameras.specs.Contract.{outcome_of, Schedules}

-- ---- accepted: what no check has refused
pub record BatchAccepted (b lengths limits : List ℕ) (held : Parts) : Type 0 where
  pub good : BatchGood b lengths limits
  pub files : verdicts (files_in lengths b) ≡ accepted
  pub counts : total (map counts_room (files_in lengths b)) ≤ length held.counts
  pub words : total (map words_room (files_in lengths b)) ≤ length held.words
  pub answers : total (map pixels_in (files_in lengths b)) ≤ length held.answers

pub batch-accepted : (b lengths limits : List ℕ) (held : Parts) → outcome_of b lengths limits held ≡ accepted → BatchAccepted b lengths limits held
unfolding cameras_outcome short_of
batch-accepted b lengths limits held e =
    let fs = files_in lengths b in
    let c = ltb (length held.counts) (total (map counts_room fs)) in
    let w = ltb (length held.words) (total (map words_room fs)) in
    let a = ltb (length held.answers) (total (map pixels_in fs)) in
    let x = both-accepted (refuse 15 (bad_batch b lengths limits)) (verdicts fs ▷ refuse 11 (c || (w || a))) e in
    let y = both-accepted (verdicts fs) (refuse 11 (c || (w || a))) x.1 in
    let z = neither c (w || a) (not-fired 11 _ y.1) in
    let q = neither w a z.1 in
    record {
      good = batch-good b lengths limits (not-fired 15 _ x.0);
      files = y.0;
      counts = ltb-false _ _ z.0;
      words = ltb-false _ _ q.0;
      answers = ltb-false _ _ q.1;
    }

-- ---- the sizes of accepted files
file-high : (f : List ℕ) → verdict f ≡ accepted → pixels_in f ≤ 262144
unfolding frame_of
file-high f ok = (limits_of f ok).sound.pixels_high

sizes-long : (fs : List (List ℕ)) → length fs ≤ 8 → length (sizes_of fs) ≡ 8
unfolding sizes_of
sizes-long fs few =
    omega (arith, length-append (map pixels_in fs) (replicate (8 - length fs) 0), length-map fs pixels_in, length-replicate {A = ℕ} (8 - length fs) 0)

sizes-beyond : (fs : List (List ℕ)) (k : ℕ) → length fs ≤ k → get_or (sizes_of fs) k 0 ≡ 0
unfolding sizes_of
sizes-beyond fs k h =
    let n : k ≡ length (map pixels_in fs) + (k - length fs) = omega (arith, length-map fs pixels_in) in
    ap (λ (j : ℕ). get_or (map pixels_in fs ++ replicate (8 - length fs) 0) j 0) n
    ∙ get_or-append-add (map pixels_in fs) (replicate (8 - length fs) 0) (k - length fs) 0 ∙ zeros-at (8 - length fs) (k - length fs)
  where
    zeros-at : (n j : ℕ) → get_or {A = ℕ} (replicate n 0) j 0 ≡ 0
    zeros-at zero j = refl
    zeros-at (suc n) zero = refl
    zeros-at (suc n) (suc j) = zeros-at n j

pixels_high : (fs : List (List ℕ)) → verdicts fs ≡ accepted → (k : ℕ) → get_or (map pixels_in fs) k 0 ≤ 262144
unfolding verdicts
pixels_high [] e k = omega arith
pixels_high (f ∷ fs) e zero = file-high f (both-accepted (verdict f) (verdicts fs) e).0
pixels_high (f ∷ fs) e (suc k) = pixels_high fs (both-accepted (verdict f) (verdicts fs) e).1 k

-- beside the files there is none
sizes-at : (fs : List (List ℕ)) (k : ℕ) → k < length fs → get_or (sizes_of fs) k 0 ≡ get_or (map pixels_in fs) k 0
unfolding sizes_of
sizes-at fs k h = get_or-append (map pixels_in fs) (replicate (8 - length fs) 0) 0 k (omega (arith, length-map fs pixels_in))

pub sizes-fit : (fs : List (List ℕ)) → length fs ≤ 8 → verdicts fs ≡ accepted → SizesFit (sizes_of fs)
sizes-fit fs few ok =
    record {
      long = sizes-long fs few;
      low = λ k. by k (dec_lt k (length fs));
    }
  where
    by : (k : ℕ) → Dec (k < length fs) → get_or (sizes_of fs) k 0 ≤ 262144
    by k (yes l) = omega (arith, sizes-at fs k l, pixels_high fs ok k)
    by k (no l) = omega (arith, sizes-beyond fs k (omega arith))

-- the files that are not there have no pixels
pub sizes-total : (fs : List (List ℕ)) → total (sizes_of fs) ≡ total (map pixels_in fs)
unfolding sizes_of total
sizes-total fs = both (map pixels_in fs) (8 - length fs)
  where
    both : (xs : List ℕ) (n : ℕ) → total (xs ++ replicate n 0) ≡ total xs
    both [] n = total-zeros n
    both (x ∷ xs) n = ap (λ (m : ℕ). x + m) (both xs n)

-- what the code's sizes and its run of the schedule are
pub sizes_run : (b lengths limits sizes : List ℕ) (held : Parts) → BatchAccepted b lengths limits held → sizes ≡ sizes_of (files_in lengths b)
    → SizesFit sizes
sizes_run b lengths limits sizes held h e =
    subst SizesFit (sym e) (sizes-fit (files_in lengths b) (omega (arith, length-files lengths b, h.good.few)) h.files)

pub round-run : (fs : List (List ℕ)) (limits sizes : List ℕ) (x : Round) → sizes ≡ sizes_of fs → x ≡ periods sizes limits opening → x ≡ round_of fs
    limits
unfolding round_of
round-run fs limits sizes x e h = h ∙ ap (λ (q : List ℕ). periods q limits opening) e

-- ---- the parts can be made by the schedule's tallies
pub servable-by : (b lengths limits : List ℕ) (held : Parts) → BatchAccepted b lengths limits held
    → Servable b lengths (round_of (files_in lengths b) limits).tallies held
unfolding round_of
servable-by b lengths limits held h =
    let fs = files_in lengths b in
    let s = tallies-periods (sizes_of fs) limits opening (tallies-opening (sizes_of fs)) in
    record {
      few = h.good.few;
      sum = h.good.sum;
      accepts = h.files;
      long = s.long;
      low = λ k l. omega (arith, s.within k, sizes-at fs k l);
      counts = h.counts;
      words = h.words;
      answers = h.answers;
    }

pub schedules-done : (b lengths limits : List ℕ) (before after : Parts) (x : Round) → accepted ≡ outcome_of b lengths limits before
    → x ≡ round_of (files_in lengths b) limits → AllMade (files_in lengths b) x.tallies before after
    → Schedules b lengths limits before after (Ok x.granted)
schedules-done b lengths limits before after x o e m =
    record {
      verdict = o;
      refused = λ n. absurd (n (sym o));
      shared = λ _.
          record {
            grants = ap (λ (y : Round). y.granted) e;
            made = subst (λ (y : Round). AllMade (files_in lengths b) y.tallies before after) e m;
          };
    }
