-- Document 01's table of refusals, a row for each number from 1 on: what the row's check says by itself, in the order of the rows; and document 02's
-- checks of the tolerance call and of the calls on byte planes, in their own order.
-- Assumes nothing.
use Rattle.std.specs.Prelude.{ℕ, suc, ◌+◌, ◌*◌, ◌≤◌, ◌<◌, ◌≡◌, ◌↔◌, true, false, ◌||◌, not, List, [], ◌∷◌, ltb, eqb, length, get_or}
use Rattle.spec.specs.declared.Settings.{Settings}
use Rattle.spec.specs.declared.Room.{Room}
use Rattle.spec.specs.Refusal.{Outcome, accepted, refused, ◌▷◌, refuse}
use Rattle.spec.specs.Frame.{trailer_at, settings_of, trailer_of, plan_of, pixels}
use Rattle.spec.specs.Checks.{bad_mark, bad_size, bad_counts, bad_kind, bad_radius, bad_distance, contents}
use Rattle.spec.specs.Calls.{bad_way, bad_pixel, short}
use Rattle.spec.specs.Tolerance.{bad_upper}
use Rattle.spec.specs.BytePlanes.{bad_overlap}
use Rattle.spec.specs.Cameras.{files_in, bad_batch, short_of}
use Rattle.spec.specs.Writer.{written_size, bad_length, scan_list}

-- rows 1 to 6, of the trailer and the distances, which every call on a file makes first, and then others
abbrev pub trailer_rows : List ℕ → List Outcome → List Outcome
trailer_rows b others =
    refuse 1 (bad_mark b) ∷ refuse 2 (bad_size (settings_of b)) ∷ refuse 3 (bad_counts (settings_of b)) ∷ refuse 4 (bad_kind (settings_of b))
    ∷ refuse 5 (bad_radius (settings_of b)) ∷ refuse 6 (bad_distance (trailer_at b) (trailer_of b)) ∷ others

-- rows 1 to 7, and then those of the call
abbrev pub file_rows : List ℕ → List Outcome → List Outcome
file_rows b own = trailer_rows b (contents b (plan_of b) ∷ own)

-- a row that a call does not make is accepted
abbrev pub walk_rows : List ℕ → ℕ → ℕ → ℕ → ℕ → Room → ℕ → List Outcome
walk_rows b way s t n have out =
    file_rows b
    (refuse 8 (bad_way (settings_of b) way) ∷ refuse 9 (bad_pixel (settings_of b) s t) ∷ refuse 10 (ltb 1048576 n)
    ∷ refuse 11 (short (settings_of b) way have out (n + 1)) ∷ [])

abbrev pub filter_rows : List ℕ → ℕ → Room → ℕ → List Outcome
filter_rows b way have out =
    file_rows b (refuse 8 (bad_way (settings_of b) way) ∷ accepted ∷ accepted
    ∷ refuse 11 (short (settings_of b) way have out (pixels (settings_of b))) ∷ [])

abbrev pub balance_rows : List ℕ → ℕ → ℕ → ℕ → List Outcome
balance_rows b s t i = file_rows b (accepted ∷ refuse 9 (bad_pixel (settings_of b) s t || not (ltb i (settings_of b).levels)) ∷ [])

abbrev pub explain_rows : List ℕ → ℕ → ℕ → List Outcome
explain_rows b s t = file_rows b (accepted ∷ refuse 9 (bad_pixel (settings_of b) s t) ∷ [])

abbrev pub writer_rows : Settings → List ℕ → List ℕ → List ℕ → ℕ → List Outcome
writer_rows settings v g a room =
    accepted ∷ refuse 2 (bad_size settings) ∷ refuse 3 (bad_counts settings) ∷ refuse 4 (bad_kind settings) ∷ refuse 5 (bad_radius settings)
    ∷ refuse 6 (bad_length settings (length v) (length g) (length a))
    ∷ (scan_list v true settings.levels 0 ▷ scan_list g false settings.guides (2 * pixels settings))
    ∷ accepted ∷ accepted ∷ accepted ∷ refuse 11 (ltb room (written_size settings (length a))) ∷ []

-- a number is given, with its values, exactly if its row fires and no row before it does; there is no number 0; and the outcome is accepted exactly
-- if no row fires
pub record ByTable (rows : List Outcome) (o : Outcome) : Type 0 where
  pub given : (n : ℕ) (l : List ℕ) → (o ≡ refused (suc n) l)
      ↔ ((get_or rows n accepted ≡ refused (suc n) l) × ((j : ℕ) → j < n → get_or rows j accepted ≡ accepted))
  pub passed : (o ≡ accepted) ↔ ((j : ℕ) → get_or rows j accepted ≡ accepted)
  pub from_one : (n : ℕ) (l : List ℕ) → o ≡ refused n l → 1 ≤ n

-- ---- checks that are made in another order than that of their numbers

-- document 02: 13 stands after 8 and before 11
abbrev pub tolerance_rows : List ℕ → List ℕ → Room → ℕ → ℕ → List Outcome
tolerance_rows b upper have least greatest =
    file_rows b
    (refuse 8 (eqb (settings_of b).kind 2) ∷ refuse 13 (bad_upper b upper)
    ∷ refuse 11 (short (settings_of b) 1 have least (pixels (settings_of b)) || ltb greatest (pixels (settings_of b))) ∷ [])

-- document 02: 14 stands after the distances, so before 7; the call that joins makes no check 7
abbrev pub split_rows : List ℕ → ℕ → List Outcome
split_rows b room = trailer_rows b (refuse 14 (bad_overlap (plan_of b)) ∷ contents b (plan_of b) ∷ refuse 11 (ltb room (length b)) ∷ [])

abbrev pub join_rows : List ℕ → ℕ → List Outcome
join_rows b room = trailer_rows b (refuse 14 (bad_overlap (plan_of b)) ∷ refuse 11 (ltb room (length b)) ∷ [])

-- document 02: 15 stands before all else, then rows 1 to 7 of each file in turn, then 11
abbrev pub files_rows : List (List ℕ) → List Outcome → List Outcome
files_rows [] own = own
files_rows (f ∷ fs) own = file_rows f (files_rows fs own)

abbrev pub cameras_rows : List ℕ → List ℕ → List ℕ → ℕ → ℕ → ℕ → List Outcome
cameras_rows b lengths limits counts words answers =
    refuse 15 (bad_batch b lengths limits) ∷ files_rows (files_in lengths b) (refuse 11 (short_of (files_in lengths b) counts words answers) ∷ [])

-- a number is given, with its values, exactly if a row fires with it and no row before that one does; and the outcome is accepted exactly if no row
-- fires
pub record InOrder (rows : List Outcome) (o : Outcome) : Type 0 where
  pub given : (n : ℕ) (l : List ℕ) → (o ≡ refused n l)
      ↔ ((j : ℕ) × (get_or rows j accepted ≡ refused n l) × ((i : ℕ) → i < j → get_or rows i accepted ≡ accepted))
  pub passed : (o ≡ accepted) ↔ ((j : ℕ) → get_or rows j accepted ≡ accepted)
