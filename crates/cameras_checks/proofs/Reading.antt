-- The loop over the files: what is known of those that were read, and what is left of the rest.
-- Assumes nothing.
use Prim.Native.Nat.{ℕ, suc, ◌+◌, ◌-◌, ◌/◌, ◌≤◌, ◌<◌}
use mathlib.Core.Path.{◌≡◌, refl, sym, ap, ap₂, ◌∙◌, subst}
use mathlib.Core.List.{List, [], ◌∷◌, ◌++◌, map, append_assoc, append-nil}
use native.Mathlib.Nat.{mul-le-mul}
use native.Mathlib.Numerals.{add-one}
use native.Mathlib.Omega.{arith}
use lib.ListN.{length, get_or, take, drop, set, replicate, length-set, take-append-drop}
use lib.Seq.{drop-drop, take-suc-set, drop-set-lt}
use Rattle.spec.specs.declared.Settings.{Settings}
use Rattle.spec.specs.declared.Plan.{Plan}
use Rattle.spec.specs.declared.Way.TheVariants.{Joint}
use Rattle.std.specs.Prelude.{Err}
use Rattle.spec.specs.declared.Refusal.{Refusal}
use Rattle.spec.specs.Refusal.{Outcome, accepted, refused, number, values_of, ◌▷◌}
use Rattle.spec.specs.Frame.{settings_of, frame_of, plan_of, settings_in}
use Rattle.spec.specs.Checks.{verdict, Planned, SettingsLimits}
use Rattle.spec.specs.Calls.{room_of}
use Rattle.spec.specs.Cameras.{files_in, total, counts_room, words_room, pixels_in, sizes_of, verdicts}
use Rattle.spec.proofs.Plans.{facts}
use Rattle.cameras_checks.specs.declared.Totals.{Totals}
use Rattle.cameras_checks.specs.Totals.{TotalsLow, Added, TotalsOf, FilesRead}
use Rattle.cameras_checks.proofs.Batch.{left_step, left-none, total_left}

-- ---- one file
pub settings-planned : {f : List ℕ} {z : Plan} → Planned f z → settings_in z ≡ settings_of f
unfolding plan_of
settings-planned k = ap settings_in k.plan

pub limits-planned : {f : List ℕ} {z : Plan} → Planned f z → SettingsLimits (settings_in z)
unfolding frame_of
limits-planned k = subst SettingsLimits (sym (settings-planned k)) (facts k).limits.sound

pub cells_low : (k : Settings) → SettingsLimits k → ((room_of Joint k).counts ≤ 262144) × ((room_of Joint k).words ≤ 262144)
unfolding room_of
cells_low k h =
    let few : (k.guides + 63) / 64 ≤ 256 = omega (arith, h.guides_high) in
    (mul-le-mul h.levels_high h.guides_high, mul-le-mul h.levels_high few)

-- ---- the files of a buffer
pub length-files : (lengths b : List ℕ) → length (files_in lengths b) ≡ length lengths
unfolding files_in
length-files [] b = refl
length-files (n ∷ lengths) b = ap suc (length-files lengths (drop n b))

module _ (b lengths : List ℕ) where
  -- those that are left, once i are read, which end at a byte; and the next of them
  abbrev pub rest : ℕ → ℕ → List (List ℕ)
  rest i at = files_in (drop i lengths) (drop at b)

  abbrev pub file : ℕ → ℕ → List ℕ
  file i at = take (get_or lengths i 0) (drop at b)

  pub rest-step : (i at : ℕ) → i < length lengths → rest i at ≡ file i at ∷ rest (i + 1) (at + get_or lengths i 0)
  unfolding files_in
  rest-step i at h =
      ap (λ (q : List ℕ). files_in q (drop at b)) (left_step lengths i h)
      ∙ ap (λ (q : List ℕ). file i at ∷ files_in (drop (i + 1) lengths) q) (drop-drop (get_or lengths i 0) at b)

  pub rest-none : (i at : ℕ) → length lengths ≤ i → rest i at ≡ []
  unfolding files_in
  rest-none i at h = ap (λ (q : List ℕ). files_in q (drop at b)) (left-none lengths i h)

  -- a sum over the files
  pub share-step : (g : List ℕ → ℕ) (t all i at : ℕ) → i < length lengths → t + total (map g (rest i at)) ≡ all
      → t + g (file i at) + total (map g (rest (i + 1) (at + get_or lengths i 0))) ≡ all
  unfolding total
  share-step g t all i at h e =
      let s : total (map g (rest i at)) ≡ g (file i at) + total (map g (rest (i + 1) (at + get_or lengths i 0))) =
      ap (λ (q : List (List ℕ)). total (map g q)) (rest-step i at h) in
      omega (arith, s, e)

  pub share-end : (g : List ℕ → ℕ) (t all i at : ℕ) → length lengths ≤ i → t + total (map g (rest i at)) ≡ all → t ≡ all
  unfolding total
  share-end g t all i at h e =
      let s : total (map g (rest i at)) ≡ 0 = ap (λ (q : List (List ℕ)). total (map g q)) (rest-none i at h) in
      omega (arith, s, e)

  pub verdict-step : (i at : ℕ) → i < length lengths → verdicts (rest i at) ≡ (verdict (file i at) ▷ verdicts (rest (i + 1) (at + get_or lengths i 0)))
  unfolding verdicts
  verdict-step i at h = ap verdicts (rest-step i at h)

  -- ---- the loop: i files are read, which end at a byte
  pub record Reading (t : Totals) (at i : ℕ) : Type 0 where
    pub place : at + total (drop i lengths) ≡ length b
    pub verdict : verdicts (files_in lengths b) ≡ verdicts (rest i at)
    pub counts : t.counts + total (map counts_room (rest i at)) ≡ total (map counts_room (files_in lengths b))
    pub words : t.words + total (map words_room (rest i at)) ≡ total (map words_room (files_in lengths b))
    pub answers : t.answers + total (map pixels_in (rest i at)) ≡ total (map pixels_in (files_in lengths b))
    pub low : TotalsLow i t
    pub long : length t.sizes ≡ 8
    pub sizes : take i t.sizes ++ map pixels_in (rest i at) ≡ map pixels_in (files_in lengths b)
    pub zeros : drop i t.sizes ≡ replicate (8 - i) 0

  tail-zeros : (n i : ℕ) (l : List ℕ) → i < n → drop i l ≡ replicate (n - i) 0 → drop (i + 1) l ≡ replicate (n - (i + 1)) 0
  tail-zeros n i l h e =
      let s : n - i ≡ suc (n - (i + 1)) = omega arith in
      sym (drop-drop 1 i l) ∙ ap (drop 1) (e ∙ ap (λ (m : ℕ). replicate m 0) s)

  pub reading-more : (t r : Totals) (at i : ℕ) → Reading t at i → i < length lengths → length lengths ≤ 8 → SettingsLimits (settings_of (file i at))
      → verdict (file i at) ≡ accepted → Added (settings_of (file i at)) i t r → Reading r (at + get_or lengths i 0) (i + 1)
  unfolding room_of
  reading-more t r at i w h few sound ok a =
      let f = file i at in
      let n = get_or lengths i 0 in
      let s : length (set t.sizes i (pixels_in f)) ≡ 8 = length-set t.sizes i (pixels_in f) ∙ w.long in
      let cells = cells_low (settings_of f) sound in
      record {
        place = omega (arith, total_left lengths i h, w.place);
        verdict = w.verdict ∙ verdict-step i at h ∙ ap (λ (o : Outcome). o ▷ verdicts (rest (i + 1) (at + n))) ok;
        counts = ap (λ (m : ℕ). m + total (map counts_room (rest (i + 1) (at + n)))) a.counts ∙ share-step counts_room t.counts _ i at h
            w.counts;
        words = ap (λ (m : ℕ). m + total (map words_room (rest (i + 1) (at + n)))) a.words ∙ share-step words_room t.words _ i at h w.words;
        answers = ap (λ (m : ℕ). m + total (map pixels_in (rest (i + 1) (at + n)))) a.answers ∙ share-step pixels_in t.answers _ i at h
            w.answers;
        low =
            record {
              counts = omega (arith, a.counts, w.low.counts, cells.0);
              words = omega (arith, a.words, w.low.words, cells.1);
              answers = omega (arith, a.answers, w.low.answers, sound.pixels_high);
            };
        long = ap length a.sizes ∙ s;
        sizes =
            ap₂ (λ (m : ℕ) (q : List ℕ). take m q ++ map pixels_in (rest (i + 1) (at + n))) (add-one i) a.sizes
            ∙ ap (λ (q : List ℕ). q ++ map pixels_in (rest (i + 1) (at + n))) (take-suc-set t.sizes i (pixels_in f) (omega (arith, w.long)))
            ∙ append_assoc (take i t.sizes) (pixels_in f ∷ []) (map pixels_in (rest (i + 1) (at + n)))
            ∙ ap (λ (q : List (List ℕ)). take i t.sizes ++ map pixels_in q) (sym (rest-step i at h)) ∙ w.sizes;
        zeros = ap (drop (i + 1)) a.sizes ∙ drop-set-lt (i + 1) t.sizes i (pixels_in f) (omega arith) ∙ tail-zeros 8 i t.sizes (omega arith)
            w.zeros;
      }

  pub reading-end : (t : Totals) (at i : ℕ) → Reading t at i → i ≤ length lengths → length lengths ≤ i → (verdicts (files_in lengths b) ≡ accepted) ×
      (TotalsOf (files_in lengths b) t)
  unfolding sizes_of verdicts
  reading-end t at i w most h =
      let e : i ≡ length (files_in lengths b) = omega (arith, length-files lengths b) in
      let none : map pixels_in (rest i at) ≡ [] = ap (map pixels_in) (rest-none i at h) in (
        w.verdict ∙ ap verdicts (rest-none i at h),
        record {
          counts = share-end counts_room _ _ i at h w.counts;
          words = share-end words_room _ _ i at h w.words;
          answers = share-end pixels_in _ _ i at h w.answers;
          sizes =
              sym (take-append-drop i t.sizes)
              ∙ ap₂ (λ (x y : List ℕ). x ++ y)
              (sym (append-nil (take i t.sizes)) ∙ ap (λ (q : List ℕ). take i t.sizes ++ q) (sym none) ∙ w.sizes)
              (w.zeros ∙ ap (λ (m : ℕ). replicate (8 - m) 0) e);
        },
      )

  -- ---- a file's part of the buffer as the code lends it, from a byte to the end
  pub part-is : (i at end : ℕ) → end ≡ at + get_or lengths i 0 → take (end - at) (drop at b) ≡ file i at
  part-is i at end e = let s : end - at ≡ get_or lengths i 0 = omega arith in ap (λ (m : ℕ). take m (drop at b)) s

  pub read-refused : {t : Totals} {at i : ℕ} → Reading t at i → i < length lengths → (e : Refusal)
      → refused (number e) (values_of e) ≡ verdict (file i at) → FilesRead (files_in lengths b) (Err e)
  read-refused {t} {at} {i} w h e is =
      record {
        verdict = sym (w.verdict ∙ verdict-step i at h ∙ ap (λ (o : Outcome). o ▷ verdicts (rest (i + 1) (at + get_or lengths i 0))) (sym is));
        totals = tt;
      }

  -- the file that the code opened
  pub reading-next : (t r : Totals) (at i : ℕ) → Reading t at i → i < length lengths → length lengths ≤ 8 → {f : List ℕ} {z : Plan} → Planned f z
      → f ≡ file i at → Added (settings_in z) i t r → Reading r (at + get_or lengths i 0) (i + 1)
  reading-next t r at i w h few {f} {z} k e a =
      let s : settings_in z ≡ settings_of (file i at) = settings-planned k ∙ ap settings_of e in
      reading-more t r at i w h few (subst SettingsLimits s (limits-planned k)) (ap verdict (sym e) ∙ k.accepts)
      (subst (λ (q : Settings). Added q i t r) s a)
